-- What a call of a connection answers, as what a query over it answers.
use Rattle.std.proofs.Common.{◌≡◌, ℕ, List, [], ◌∷◌, ◌++◌, length, refl, Option, None, Some, Result, Ok, Err, ap, sym}
use Rattle.std.proofs.Common.{◌∙◌, subst, append-nil, arith}
use Rattle.std.specs.Io.KnownBytes.{Appends, Consumes}
use Rattle.std.specs.Prelude.{MatchOption}
use Rattle.resp_value.specs.declared.value.Value.{Value, Nil}
use Rattle.resp_value.specs.FirstError.{first_error}
use Rattle.resp_errors.specs.Errors.{error_of_parsing}
use Rattle.resp_errors.specs.declared.server_error.ServerError.{ServerError}
use Rattle.resp_errors.specs.declared.parsing_error.ParsingError.{ParsingError}
use Rattle.resp_errors.specs.declared.parsing_error.ParsingError.TheVariants as parsing
use Rattle.resp_from.specs.Conversion.{RefusesIf, CallRefusesIf, ConvertsCall}
use Rattle.resp_errors.specs.declared.redis_error.RedisError.{RedisError}
use Rattle.resp_errors.specs.declared.redis_error.RedisError.TheVariants.{Io, Parse, Server, OutOfMemory}
use Rattle.resp_errors.specs.declared.kinds.IoKind.TheVariants.{UnexpectedEof}
use Rattle.resp_errors.specs.declared.parsing_error.ParsingError.TheVariants.{Fault}
use Rattle.resp_command.specs.Call.{Asks, Call, CommandCall, Reconnects, Refuses, Routes, AnswersReply, Answers}
use Rattle.resp_command.specs.Call.{broken_link, no_command, no_reply, refused, replaced, not_carried, carried, parted, needed}
use Rattle.resp_command.specs.Command.{Command}
use Rattle.resp_command.specs.CommandQuery.{CommandQuery}
use Rattle.resp_command.specs.Connection.{push_room, Connection, Bytes, ExchangeOf, Exchange, replied}
use Rattle.resp_command.specs.Connection.{malformed}
use Rattle.resp_command.specs.Connection.{early_end}
use Rattle.resp_command.specs.Connection.{sink_failed, source_failed, out_of_memory}
use Rattle.resp_command.specs.Packed.{packed}
use Rattle.resp_command.specs.Parted.{Parted}
use Rattle.resp_command.proofs.PackedReadsBack.{packed_reads_only}
use Rattle.resp_command.proofs.OneTaking.{takes_one_thing}

-- what is answered isn't refused
refuses_ok : {A : Type 0} (old new : Connection) (a : A) (f : RedisError) → Refuses old new f (Ok a) → ⊥
refuses_ok old new a f h = let k = h.answer in cc

module _ {A B : Type 0} (new : Connection) (q : List ℕ) (n : ℕ) (answers answers' : List Value → Type 0)
    (old : Connection) where
  -- the same error, of another type of answers
  exchange_of_err : (bytes : Bytes) (e : RedisError) → ((replies : List Value) → answers replies → ⊥)
      → ExchangeOf {A = A} bytes old new q n (Err e) answers → ExchangeOf {A = B} bytes old new q n (Err e) answers'
  exchange_of_err bytes e none (replied h) = absurd (none h.replies h.answer)
  exchange_of_err bytes e none (malformed h) = let i : e ≡ Parse (Fault h.frame_fault) = (let k = h.answer in cc) in
      malformed (record {
        frame_fault = h.frame_fault;
        aside = h.aside;
        sent = h.sent;
        takes = h.takes;
        listed = h.listed;
        broken = h.broken;
        no_failure = h.no_failure;
        answer = ap Err i;
      })
  exchange_of_err bytes e none (early_end h) = let i : e ≡ Io UnexpectedEof = (let k = h.answer in cc) in
      early_end (record {
        aside = h.aside;
        sent = h.sent;
        takes = h.takes;
        end = h.end;
        listed = h.listed;
        broken = h.broken;
        no_failure = h.no_failure;
        answer = ap Err i;
      })
  exchange_of_err bytes e none (sink_failed h) = sink_failed (record {
    sent = h.sent;
    unread = h.unread;
    listed = h.listed;
    broken = h.broken;
    source = h.source;
    counted = h.counted;
    answer = h.answer;
  })
  exchange_of_err bytes e none (source_failed h) = source_failed (record {
    aside = h.aside;
    sent = h.sent;
    takes = h.takes;
    listed = h.listed;
    broken = h.broken;
    counted = h.counted;
    sink = h.sink;
    answer = h.answer;
  })
  exchange_of_err bytes e none (out_of_memory h) = let i : e ≡ OutOfMemory = (let k = h.answer in cc) in
      out_of_memory (record { answer = ap Err i; no_failure = h.no_failure; left = h.left })

  exchange_err : (e : RedisError) → ((replies : List Value) → answers replies → ⊥)
      → Exchange {A = A} old new q n (Err e) answers → Exchange {A = B} old new q n (Err e) answers'
  exchange_err e none h = record {
    same = h.same;
    arrived = h.arrived;
    gone = h.gone;
    moves = h.moves;
    needed = h.needed;
    of = exchange_of_err _ e none h.of;
  }

  -- what the replies are answered with, turned into another answer
  exchange_of_ok : (bytes : Bytes) (a : A) (r : Result B RedisError)
      → ((replies : List Value) → length replies ≡ n → answers replies → answers' replies)
      → ExchangeOf {A = A} bytes old new q n (Ok a) answers → ExchangeOf {A = B} bytes old new q n r answers'
  exchange_of_ok bytes a r turn (replied h) = replied (record {
    replies = h.replies;
    aside = h.aside;
    enough = h.enough;
    sent = h.sent;
    takes = h.takes;
    listed = h.listed;
    usable = h.usable;
    no_failure = h.no_failure;
    answer = turn h.replies h.enough h.answer;
  })
  exchange_of_ok bytes a r turn (malformed h) = absurd (let k = h.answer in cc)
  exchange_of_ok bytes a r turn (early_end h) = absurd (let k = h.answer in cc)
  exchange_of_ok bytes a r turn (sink_failed h) = absurd h.answer
  exchange_of_ok bytes a r turn (source_failed h) = absurd h.answer
  exchange_of_ok bytes a r turn (out_of_memory h) = absurd (let k = h.answer in cc)

  pub exchange_ok : (a : A) (r : Result B RedisError)
      → ((replies : List Value) → length replies ≡ n → answers replies → answers' replies)
      → Exchange {A = A} old new q n (Ok a) answers → Exchange {A = B} old new q n r answers'
  exchange_ok a r turn h = record {
    same = h.same;
    arrived = h.arrived;
    gone = h.gone;
    moves = h.moves;
    needed = h.needed;
    of = exchange_of_ok _ a r turn h.of;
  }

  refuses_err : (e f : RedisError) → Refuses {A = A} old new f (Err e) → Refuses {A = B} old new f (Err e)
  refuses_err e f h = record { answer = (let i : e ≡ f = (let k = h.answer in cc) in ap Err i); same = h.same }

  asks_err : (IsEmpty IsUnanswered : Type 0) (e : RedisError) → ((replies : List Value) → answers replies → ⊥)
      → Asks {A = A} old new IsEmpty IsUnanswered q n (Err e) answers → Asks {A = B} old new IsEmpty IsUnanswered q n (Err e) answers'
  asks_err IsEmpty IsUnanswered e none h = record {
    when_empty = λ m. refuses_err e no_command (h.when_empty m);
    when_unanswered = λ m. refuses_err e no_reply (h.when_unanswered m);
    otherwise = λ m k. exchange_err e none (h.otherwise m k);
  }

  pub asks_ok : (IsEmpty IsUnanswered : Type 0) (a : A) (r : Result B RedisError)
      → ((replies : List Value) → length replies ≡ n → answers replies → answers' replies)
      → Asks {A = A} old new IsEmpty IsUnanswered q n (Ok a) answers → Asks {A = B} old new IsEmpty IsUnanswered q n r answers'
  asks_ok IsEmpty IsUnanswered a r turn h = record {
    when_empty = λ m. absurd (refuses_ok old new a no_command (h.when_empty m));
    when_unanswered = λ m. absurd (refuses_ok old new a no_reply (h.when_unanswered m));
    otherwise = λ m k. exchange_ok a r turn (h.otherwise m k);
  }

-- a connection that reconnects or routes, by what is said of the call over the other link
module _ {A B : Type 0} (old new : Connection) (MadeOver MadeOver' : Connection → Type 0)
    (turn : (other : Connection) → MadeOver other → MadeOver' other) where
  pub reconnects_err : (e : RedisError) → Reconnects {A = A} old new (Err e) MadeOver
      → Reconnects {A = B} old new (Err e) MadeOver'
  reconnects_err e (refused f h) = refused f (refuses_err new [] 0 (λ _. ⊥) (λ _. ⊥) old e f h)
  reconnects_err e (replaced other works h) = replaced other works (turn other h)

  pub reconnects_ok : (a : A) (r : Result B RedisError) → Reconnects {A = A} old new (Ok a) MadeOver
      → Reconnects {A = B} old new r MadeOver'
  reconnects_ok a r (refused f h) = absurd (refuses_ok old new a f h)
  reconnects_ok a r (replaced other works h) = replaced other works (turn other h)

  module _ (IsParted IsParted' : Type 0) (turn_parted : IsParted → IsParted') where
    -- one that routes
    pub routes_err : (e : RedisError) → Routes {A = A} (Err e) MadeOver IsParted
        → Routes {A = B} (Err e) MadeOver' IsParted'
    routes_err e (not_carried f h) = not_carried e refl
    routes_err e (carried other works h) = carried other works (turn other h)
    routes_err e (parted h) = parted (turn_parted h)

    pub routes_ok : (a : A) (r : Result B RedisError) → Routes {A = A} (Ok a) MadeOver IsParted
        → Routes {A = B} r MadeOver' IsParted'
    routes_ok a r (not_carried f h) = absurd (let k = h in cc)
    routes_ok a r (carried other works h) = carried other works (turn other h)
    routes_ok a r (parted h) = parted (turn_parted h)

-- the same answer, by less that is said of the call over the other
pub reconnects_over : {A : Type 0} (old new : Connection) (r : Result A RedisError)
    (MadeOver MadeOver' : Connection → Type 0) → ((other : Connection) → MadeOver other → MadeOver' other)
    → Reconnects old new r MadeOver → Reconnects old new r MadeOver'
reconnects_over old new r MadeOver MadeOver' turn (refused e h) = refused e h
reconnects_over old new r MadeOver MadeOver' turn (replaced other works h) = replaced other works (turn other h)

pub routes_over : {A : Type 0} (r : Result A RedisError) (MadeOver MadeOver' : Connection → Type 0) (IsParted : Type 0)
    → ((other : Connection) → MadeOver other → MadeOver' other) → Routes r MadeOver IsParted
    → Routes r MadeOver' IsParted
routes_over r MadeOver MadeOver' IsParted turn (not_carried e h) = not_carried e h
routes_over r MadeOver MadeOver' IsParted turn (carried other works h) = carried other works (turn other h)
routes_over r MadeOver MadeOver' IsParted turn (parted h) = parted h

-- the replies over several links, by another answer that they make
pub parted_turned : (q : List ℕ) (n : ℕ) (answers answers' : List Value → Type 0)
    → ((replies : List Value) → length replies ≡ n → answers replies → answers' replies)
    → Parted q n answers → Parted q n answers'
parted_turned q n answers answers' turn h = record {
  commands = h.commands;
  replies = h.replies;
  request = h.request;
  no_transaction = h.no_transaction;
  each = h.each;
  enough = h.enough;
  several = h.several;
  answer = turn h.replies h.enough h.answer;
}

module _ {A B : Type 0} (old new : Connection) (q : List ℕ) (n : ℕ) (answers answers' : List Value → Type 0)
    (IsEmpty IsUnanswered : Type 0) where
  pub call_err : (e : RedisError) → ((replies : List Value) → answers replies → ⊥)
      → Call {A = A} old new IsEmpty IsUnanswered q n (Err e) answers → Call {A = B} old new IsEmpty IsUnanswered q n (Err e) answers'
  call_err e none h = record {
    policy = h.policy;
    when_broken = λ b same. refuses_err new q n answers answers' old e broken_link (h.when_broken b same);
    when_lost = λ b again. reconnects_err old new _ _
        (λ other. asks_err new q n answers answers' other IsEmpty IsUnanswered e none) e (h.when_lost b again);
    when_routed = λ b. routes_err old new _ _
        (λ other. asks_err new q n answers answers' other IsEmpty IsUnanswered e none) _ _
        (parted_turned q n answers answers' (λ replies _ h. absurd (none replies h))) e (h.when_routed b);
    when_working = λ b own. asks_err new q n answers answers' old IsEmpty IsUnanswered e none (h.when_working b own);
  }

  pub call_ok : (a : A) (r : Result B RedisError)
      → ((replies : List Value) → length replies ≡ n → answers replies → answers' replies)
      → Call {A = A} old new IsEmpty IsUnanswered q n (Ok a) answers → Call {A = B} old new IsEmpty IsUnanswered q n r answers'
  call_ok a r turn h = record {
    policy = h.policy;
    when_broken = λ b same. absurd (refuses_ok old new a broken_link (h.when_broken b same));
    when_lost = λ b again. reconnects_ok old new _ _
        (λ other. asks_ok new q n answers answers' other IsEmpty IsUnanswered a r turn) a r (h.when_lost b again);
    when_routed = λ b. routes_ok old new _ _
        (λ other. asks_ok new q n answers answers' other IsEmpty IsUnanswered a r turn) _ _
        (parted_turned q n answers answers' turn) a r (h.when_routed b);
    when_working = λ b own. asks_ok new q n answers answers' old IsEmpty IsUnanswered a r turn (h.when_working b own);
  }

-- an exchange in which nothing came and nothing was sent
kept-known : (known : Option (List ℕ)) → Consumes known known [] × Appends known known []
kept-known None = (tt, tt)
kept-known (Some xs) = (refl, sym (append-nil xs))

pub nothing_done : {A : Type 0} {old new : Connection} {q : List ℕ} {n : ℕ} {r : Result A RedisError}
    {answers : List Value → Type 0} → new ≡ old →
    ExchangeOf (record { incoming = old.received ++ []; left = new.received; sent = [] }) old new q n r answers
    → Exchange old new q n r answers
nothing_done {old = old} {new = new} same h = record {
  same = record {
    pipelines = ap (λ (c : Connection). c.pipelines) same;
    policy = ap (λ (c : Connection). c.policy) same;
    limits = ap (λ (c : Connection). c.limits) same;
    read_size = ap (λ (c : Connection). c.read_size) same;
  };
  arrived = [];
  gone = [];
  moves = record {
    came = ap (λ (c : Connection). c.came) same ∙ sym (append-nil old.came);
    sent = ap (λ (c : Connection). c.sent) same ∙ sym (append-nil old.sent);
    to_come = subst (λ (c : Connection). Consumes old.to_come c.to_come []) (sym same) (kept-known old.to_come).0;
    holds = subst (λ (c : Connection). Appends old.holds c.holds []) (sym same) (kept-known old.holds).1;
  };
  needed = record {
    before = [];
    last = [];
    whole = refl;
    some = λ _. refl;
    size = omega arith;
    short = λ some. absurd (some refl);
  };
  of = h;
}

-- a refusal of a conversion, as the call's
pub refused_call : (P : Type 0) (e : ParsingError) → RefusesIf e P → CallRefusesIf (error_of_parsing e) P
refused_call P (parsing.Described text) h = (tt, h)
refused_call P (parsing.Fault fault) h = absurd h
refused_call P parsing.OutOfMemory h = tt

-- what a reply makes that holds no server error
pub harmless_answered : {X : Type 0} (Of : Value → X → Type 0) (v : Value) (r : Result X RedisError)
    → first_error v ≡ None → ConvertsCall (Of v) r → Answers Of r v
harmless_answered Of v r none h =
    subst (λ (e : Option ServerError). MatchOption e (ConvertsCall (Of v) r) (λ error. r ≡ Err (Server error)))
    (sym none) h

-- the one reply is the result
abbrev ReplyIs : Result Value RedisError → List Value → Type 0
ReplyIs r = AnswersReply (λ reply. r ≡ Ok reply)

-- an error answers no reply
none_answered : (e : RedisError) (replies : List Value) → ReplyIs (Err e) replies → ⊥
none_answered e [] h = cc
none_answered e (reply ∷ []) h = cc
none_answered e (reply ∷ next ∷ more) h = h

-- a reply that is answered, and then converted
reply_answered : {X : Type 0} (Of : Value → X → Type 0) (v : Value) (r : Result X RedisError) → Answers Of r v
    → (replies : List Value) → ReplyIs (Ok v) replies → AnswersReply (Answers Of r) replies
reply_answered Of v r h [] e = let i : v ≡ Nil = cc in subst (Answers Of r) i h
reply_answered Of v r h (reply ∷ []) e = let i : v ≡ reply = cc in subst (Answers Of r) i h
reply_answered Of v r h (reply ∷ next ∷ more) e = e

module _ {X : Type 0} (old new : Connection) (c : Command) (Of : Value → X → Type 0) where
  pub command_refused : (sent : Result Value RedisError) (e : RedisError) → sent ≡ Err e
      → CommandCall old new c sent (λ reply. sent ≡ Ok reply) → CommandQuery old new c Of (Err e)
  command_refused sent e is h = record {
    reads_only = packed_reads_only c.args;
    takes_one = λ link arrived. takes_one_thing link.limits (push_room link) (needed c) (link.received ++ arrived);
    call = call_err old new (packed c.args) (needed c) (ReplyIs (Err e)) _ _ _ e (none_answered e) (rw is at h);
  }

  pub command_answered : (sent : Result Value RedisError) (v : Value) (r : Result X RedisError) → sent ≡ Ok v
      → Answers Of r v → CommandCall old new c sent (λ reply. sent ≡ Ok reply) → CommandQuery old new c Of r
  command_answered sent v r is answer h = record {
    reads_only = packed_reads_only c.args;
    takes_one = λ link arrived. takes_one_thing link.limits (push_room link) (needed c) (link.received ++ arrived);
    call = call_ok old new (packed c.args) (needed c) (ReplyIs (Ok v)) _ _ _ v r
        (λ replies _. reply_answered Of v r answer replies) (rw is at h);
  }

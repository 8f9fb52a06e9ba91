-- A request, and then a reply whose body was taken in pieces.
use Rattle.std.proofs.Common.{◌≡◌, ℕ, List, [], ◌∷◌, ◌++◌, Bool, true, false, refl, ap, sym, ◌∙◌, subst, append-nil, Result, Ok, Err, inl}
use Rattle.std.specs.Io.KnownBytes.{Appends}
use Rattle.resp_value.specs.declared.value.Value.{Nil}
use Rattle.resp_errors.specs.Errors.{error_of_io}
use Rattle.resp_errors.specs.declared.kinds.IoKind.{IoKind}
use Rattle.resp_errors.specs.declared.redis_error.RedisError.{RedisError}
use Rattle.resp_errors.specs.declared.redis_error.RedisError.TheVariants.{OutOfMemory}
use Rattle.resp_command.specs.Connection as connection
use Rattle.resp_command.specs.Call.{needed}
use Rattle.resp_command.specs.Command.{Command}
use Rattle.resp_command.specs.Subscriptions.{IsUnanswered}
use Rattle.resp_command.specs.Connection.{Connection}
use Rattle.resp_args.specs.Args.{Args}
use Rattle.resp_command.specs.Packed.{packed, packed_or_none}
use Rattle.resp_link.specs.declared.streamed.Streamed.{Streamed}
use Rattle.resp_link.specs.declared.streamed.Streamed.TheVariants.{Reply}
use Rattle.resp_link.specs.Linking.{connection_of}
use Rattle.resp_link.specs.Receiving.{Inflow, room}
use Rattle.resp_link.specs.Sink.{Sink, SendsAll}
use Rattle.resp_link.specs.Streaming.{AnswersBody, CannotHandReply, HandsOn, HandsOnReply, HandsReply, StopsInBody}
use Rattle.resp_link.specs.Streaming.{StoppedInBody}
use Rattle.resp_link.proofs.LinkExchanges.{unsent, replied, unanswered}
use Rattle.resp_link.proofs.Receiving.{consumed-nothing, needed-none, receives_none}
use Rattle.resp_link.proofs.SentSoFar.{grown-nothing}

module _ (i : Inflow) (k k' : Sink) (broken : Bool) (q : List ℕ) where
  -- the request wasn't sent whole
  pub into-unsent : (n : ℕ) (kind : IoKind) (b : Sink) → SendsAll k k' q (Err kind)
      → HandsOn (connection_of i k broken) (connection_of i k' true) b b q n (Err (error_of_io kind))
  into-unsent n kind b sending = HandsOn.as_ever (unsent i k k' broken q n kind _ sending) refl

  -- it was, and no reply is waited for
  pub into-alone : (b : Sink) → SendsAll k k' q (Ok tt)
      → HandsOn (connection_of i k broken) (connection_of i k' false) b b q 0 (Ok (Reply Nil))
  into-alone b sending = HandsOn.as_ever (replied i i k k' broken q 0 [] (Ok (Reply Nil)) _ sending (receives_none i)
      (AnswersBody.other (λ x e. cc) refl refl)) tt

  -- a reply came, or none
  module _ (i' : Inflow) (b b' : Sink) (sending : SendsAll k k' q (Ok tt)) where
    pub into-replied : (s : Streamed) → HandsReply i i' b b' (Ok s)
        → HandsOn (connection_of i k broken) (connection_of i' k' false) b b' q 1 (Ok s)
    into-replied s h = HandsOn.as_ever (replied i i' k k' broken q 1 (h.reply ∷ []) (Ok s) _ sending h.received h.answers) tt

    stopped : (e : RedisError) → StopsInBody i i' b b' e
        → StoppedInBody (connection_of i k broken) (connection_of i' k' true) b b' q (Err e)
    stopped e h = record {
      error = e;
      answer = refl;
      same = record { pipelines = refl; policy = refl; limits = h.limits; read_size = refl };
      arrived = h.arrived;
      moves = record {
        came = h.came;
        sent = sending.sent ∙ ap (λ z. k.sent ++ z) sending.part;
        to_come = h.to_come;
        holds = subst (Appends k.holds k'.holds) sending.part sending.holds;
      };
      flushed = sending.flushed;
      needed = h.needed;
      frames = h.frames;
      rest = h.rest;
      prefix = h.prefix;
      only_pushes = h.only_pushes;
      fits = h.fits;
      listed = record { pushes = h.pushes; bytes = h.size };
      hands = h.hands;
      sink = sending.failures;
      broken = refl;
    }

    pub into-missed : (e : RedisError) → CannotHandReply i i' b b' e
        → HandsOn (connection_of i k broken) (connection_of i' k' true) b b' q 1 (Err e)
    into-missed e (CannotHandReply.nothing c same) = HandsOn.as_ever (unanswered i i' k k' broken q 1 e _ sending c) same
    into-missed e (CannotHandReply.in_body h) = HandsOn.in_body refl (stopped e h)

-- ---- calls

-- memory ran out, and nothing was sent
pub into-nothing : (i : Inflow) (k : Sink) (broken : Bool) (q : List ℕ) (n : ℕ) (b : Sink) (e : RedisError) → e ≡ OutOfMemory
    → HandsOn (connection_of i k broken) (connection_of i k broken) b b q n (Err e)
into-nothing i k broken q n b e is = HandsOn.as_ever (record {
  same = record { pipelines = refl; policy = refl; limits = refl; read_size = refl };
  arrived = [];
  gone = [];
  moves = record {
    came = sym (append-nil i.came);
    sent = sym (append-nil k.sent);
    to_come = consumed-nothing i.to_come;
    holds = grown-nothing k.holds;
  };
  needed = needed-none i.limits (room i) n i.received;
  of = connection.out_of_memory (record {
    answer = ap Err is;
    no_failure = record { source = refl; sink = refl };
    left = inl refl;
  });
}) refl

packed-some : (args : Args) → (args ≡ [] → ⊥) → packed_or_none args ≡ packed args
packed-some [] some = absurd (some refl)
packed-some (arg ∷ args) some = refl

-- a call that isn't refused
pub into-called : (old new : Connection) (c : Command) (b b' : Sink) (q : List ℕ) (n : ℕ) (r : Result Streamed RedisError)
    → old.broken ≡ false → (c.args ≡ [] → ⊥) → (IsUnanswered c → ⊥) → q ≡ packed_or_none c.args → n ≡ needed c
    → HandsOn old new b b' q n r → HandsOnReply old new c b b' r
into-called old new c b b' q n r works some waits is count h = record {
  when_broken = λ e. absurd (let k : true ≡ false = sym e ∙ works in cc);
  when_empty = λ _ none. absurd (some none);
  when_unanswered = λ _ none. absurd (waits none);
  otherwise = λ _ _ _. rw (is ∙ packed-some c.args some, count) at h;
}

-- A request, and then its replies.
use Rattle.std.proofs.Common.{◌≡◌, ℕ, ◌-◌, ◌<◌, arith, List, [], ◌∷◌, ◌++◌, length, true, false, Bool}
use Rattle.std.proofs.Common.{append-nil, sym, ap, ◌∙◌}
use Rattle.std.proofs.Common.{refl, subst, Result, Ok, Err, inr}
use Rattle.std.specs.Io.KnownBytes.{Consumes}
use Rattle.resp_value.specs.declared.value.Value.{Value}
use Rattle.resp_errors.specs.Errors.{error_of_io}
use Rattle.resp_errors.specs.declared.kinds.IoKind.{IoKind}
use Rattle.resp_errors.specs.declared.kinds.FrameFault.{FrameFault}
use Rattle.resp_errors.specs.declared.redis_error.RedisError.{RedisError}
use Rattle.resp_parse.specs.Limited.{Awaits}
use Rattle.resp_parse.specs.declared.limits.Limits.{Limits}
use Rattle.resp_link.specs.Linking.{connection_of}
use Rattle.resp_link.specs.Sink.{Sink, SendsAll}
use Rattle.resp_command.specs.Taken.{Taken, took, met_fault, ended_early, Frame, aside_of, push_bytes}
use Rattle.resp_command.specs.Taken.{FollowsPush, MeetsFault, replies_in, all, all_but_last}
use Rattle.resp_command.proofs.Values.{reads_both}
use Rattle.resp_link.specs.Receiving.{Inflow, room, Reads, StopsReceiving, Receives, CannotReceive, malformed}
use Rattle.resp_link.specs.Receiving.{early_end, source_failed, out_of_memory, no_room}
use Rattle.resp_link.proofs.Receiving.{needed-none, consumed-nothing}
use Rattle.resp_command.specs.Call.{Call, needed}
use Rattle.resp_command.specs.Command.{Command}
use Rattle.resp_command.specs.Packed.{packed}
use Rattle.resp_command.specs.Subscriptions.{IsUnanswered}
use Rattle.resp_command.specs.Connection as connection
use Rattle.resp_command.specs.Connection.{Connection, SameKind, Moves, Bytes, Sent, ExchangeOf, Exchange, TookTooFew}
use Rattle.resp_command.specs.Connection.{TookSome, BrokenMidway, SetsAside, stays, routes}

-- ---- what was read before it stopped

module _ (n : ℕ) (i i' : Inflow) (e : RedisError) (r : CannotReceive n i i' e) where
  abbrev incoming : List ℕ
  incoming = i.received ++ r.reads.arrived

  room_left : room i' ≡ room i - push_bytes r.frames
  room_left = let l = ap (λ (z : Limits). z.pushes) r.reads.limits in let s = r.reads.size in omega (arith, l, s)

  taken_fault : length (replies_in r.frames) < n → (f : FrameFault) → MeetsFault i.limits (room i') r.rest f
      → Taken i.limits (room i) n incoming (met_fault f (aside_of r.frames))
  unfolding Taken
  taken_fault few f bad = record {
    frames = r.frames;
    rest = r.rest;
    prefix = r.reads.prefix;
    few = few;
    aside_is = refl;
    fits = r.reads.fits;
    follows = subst (λ z. MeetsFault i.limits z r.rest f) room_left bad;
  }

  taken_early : length (replies_in r.frames) < n → Awaits i.limits r.rest
      → Taken i.limits (room i) n incoming (ended_early (aside_of r.frames))
  unfolding Taken
  taken_early few incomplete = record {
    frames = r.frames;
    rest = r.rest;
    prefix = r.reads.prefix;
    few = few;
    aside_is = refl;
    fits = r.reads.fits;
    follows = incomplete;
  }

taken_got : (n : ℕ) (i i' : Inflow) (replies : List Value) (r : Receives n i i' replies)
    → Taken i.limits (room i) n (i.received ++ r.reads.arrived) (took replies (aside_of r.frames) i'.received)
unfolding Taken
taken_got n i i' replies r = record {
  frames = r.frames;
  prefix = r.reads.prefix;
  ends = r.ends;
  replies_are = r.replies_are;
  aside_is = refl;
  fits = r.reads.fits;
}

-- ---- an exchange of a link

-- what came in while this was sent
module _ (i i' : Inflow) (k k' : Sink) (b b' : Bool) where
  same_kind : i'.limits ≡ i.limits → SameKind (connection_of i k b) (connection_of i' k' b')
  same_kind limits = record { pipelines = refl; policy = refl; limits = limits; read_size = refl }

  moves : (arrived : List ℕ) → i'.came ≡ i.came ++ arrived → Consumes i.to_come i'.to_come arrived
      → {q : List ℕ} {r : Result (Unit {0}) IoKind} → (sending : SendsAll k k' q r)
      → Moves (connection_of i k b) (connection_of i' k' b') arrived sending.gone
  moves arrived came to_come sending = record {
    came = came;
    sent = sending.sent;
    to_come = to_come;
    holds = sending.holds;
  }

  set_aside : (n : ℕ) (frames : List Frame) (rest : List ℕ) → Reads n i i' frames rest
      → SetsAside (connection_of i k b) (connection_of i' k' b') (aside_of frames)
  set_aside n frames rest r = record { pushes = r.pushes; bytes = r.size }

  sent_whole : (q incoming left : List ℕ) → (sending : SendsAll k k' q (Ok tt))
      → Sent (record { incoming = incoming; left = left; sent = sending.gone }) (connection_of i' k' b') q
  sent_whole q incoming left sending = record { all = sending.part; flushed = sending.flushed }

-- the request wasn't sent whole
pub unsent : {A : Type 0} (i : Inflow) (k k' : Sink) (b : Bool) (q : List ℕ) (n : ℕ) (kind : IoKind)
    (answers : List Value → Type 0) →
    SendsAll k k' q (Err kind) → Exchange {A = A} (connection_of i k b) (connection_of i k' true) q n
    (Err (error_of_io kind))
    answers
unsent i k k' b q n kind answers sending =
    record {
      same = same_kind i i k k' b true refl;
      arrived = [];
      gone = sending.gone;
      moves = moves i i k k' b true [] (sym (append-nil i.came)) (consumed-nothing i.to_come) sending;
      needed = needed-none i.limits (room i) n i.received;
      of = connection.sink_failed (record {
        sent = sending.part;
        unread = record { received = refl; came = refl };
        listed = record { pushes = sym (append-nil i.pushes); bytes = omega arith };
        broken = refl;
        source = refl;
        counted = sending.failures;
        answer = record { kind = kind; is = refl };
      });
    }

-- the replies came
pub replied : {A : Type 0} (i i' : Inflow) (k k' : Sink) (b : Bool) (q : List ℕ) (n : ℕ) (replies : List Value)
    (result : Result A RedisError) (answers : List Value → Type 0) →
    SendsAll k k' q (Ok tt) → Receives n i i' replies → answers replies
    → Exchange (connection_of i k b) (connection_of i' k' false) q n result answers
replied i i' k k' b q n replies result answers sending r answer = record {
  same = same_kind i i' k k' b false r.reads.limits;
  arrived = r.reads.arrived;
  gone = sending.gone;
  moves = moves i i' k k' b false r.reads.arrived r.reads.came r.reads.to_come sending;
  needed = r.reads.needed;
  of = connection.replied (record {
    replies = replies;
    aside = aside_of r.frames;
    enough = ap length r.replies_are ∙ r.ends.enough;
    sent = sent_whole i i' k k' b false q _ _ sending;
    takes = taken_got n i i' replies r;
    listed = set_aside i i' k k' b false n r.frames i'.received r.reads;
    usable = refl;
    no_failure = record { source = r.failures; sink = sending.failures };
    answer = answer;
  });
}

-- fewer replies came than were needed
module _ (i i' : Inflow) (k k' : Sink) (b : Bool) (q : List ℕ) (n : ℕ) (e : RedisError)
    (sending : SendsAll k k' q (Ok tt)) (r : CannotReceive n i i' e) where
  abbrev bytes : Bytes
  bytes = record { incoming = i.received ++ r.reads.arrived; left = i'.received; sent = sending.gone }

  abbrev old : Connection
  old = connection_of i k b

  abbrev new : Connection
  new = connection_of i' k' true

  too_few : length (replies_in r.frames) < n → Awaits i.limits r.rest → i'.received ≡ r.rest
      → TookTooFew n bytes old new (aside_of r.frames)
  too_few few awaits left = record {
    frames = r.frames;
    taken = rw left r.reads.prefix;
    few = few;
    aside_is = refl;
    fits = r.reads.fits;
    incomplete = rw left awaits;
  }

  -- memory ran out once the request was sent
  midway : TookSome bytes i.limits (room i) (aside_of r.frames) → BrokenMidway bytes old new q
  midway takes = record {
    aside = aside_of r.frames;
    sent = record { rest = []; whole = sym sending.part ∙ sym (append-nil sending.gone) };
    begun = λ none. sym sending.part ∙ none;
    takes = takes;
    listed = set_aside i i' k k' b true n r.frames r.rest r.reads;
    broken = refl;
  }

  took_all : i'.received ≡ r.rest → TookSome bytes i.limits (room i) (aside_of r.frames)
  took_all left = record {
    frames = r.frames;
    taken = rw left r.reads.prefix;
    listed = all refl;
    fits = r.reads.fits;
  }

  took_but_last : FollowsPush i.limits r.rest i'.received → TookSome bytes i.limits (room i) (aside_of r.frames)
  took_but_last p = record {
    frames = r.frames ++ p.push ∷ [];
    taken = reads_both i.limits bytes.incoming r.rest i'.received r.frames (p.push ∷ []) r.reads.prefix p.prefix;
    listed = all_but_last r.frames p.push refl p.is_push refl;
    fits = r.reads.fits;
  }

  missed : {A : Type 0} (answers : List Value → Type 0)
      → StopsReceiving (length (replies_in r.frames) < n) i i' r.rest e
      → ExchangeOf {A = A} bytes old new q n (Err e) answers
  missed answers (malformed f few is bad same) = connection.malformed (record {
    frame_fault = f;
    aside = aside_of r.frames;
    sent = sent_whole i i' k k' b true q _ _ sending;
    takes = taken_fault n i i' e r few f bad;
    listed = set_aside i i' k k' b true n r.frames r.rest r.reads;
    broken = refl;
    no_failure = record { source = same; sink = sending.failures };
    answer = ap Err is;
  })
  missed answers (early_end few is incomplete end same) = connection.early_end (record {
    aside = aside_of r.frames;
    sent = sent_whole i i' k k' b true q _ _ sending;
    takes = taken_early n i i' e r few incomplete;
    end = end;
    listed = set_aside i i' k k' b true n r.frames r.rest r.reads;
    broken = refl;
    no_failure = record { source = same; sink = sending.failures };
    answer = ap Err is;
  })
  missed answers (source_failed kind few is awaits left counted) = connection.source_failed (record {
    aside = aside_of r.frames;
    sent = sent_whole i i' k k' b true q _ _ sending;
    takes = too_few few awaits left;
    listed = set_aside i i' k k' b true n r.frames r.rest r.reads;
    broken = refl;
    counted = counted;
    sink = sending.failures;
    answer = record { kind = kind; is = is };
  })
  missed answers (out_of_memory is left same) = connection.out_of_memory (record {
    answer = ap Err is;
    no_failure = record { source = same; sink = sending.failures };
    left = inr (midway (took_all left));
  })
  missed answers (no_room is push same) = connection.out_of_memory (record {
    answer = ap Err is;
    no_failure = record { source = same; sink = sending.failures };
    left = inr (midway (took_but_last push));
  })

pub unanswered : {A : Type 0} (i i' : Inflow) (k k' : Sink) (b : Bool) (q : List ℕ) (n : ℕ) (e : RedisError)
    (answers : List Value → Type 0) →
    SendsAll k k' q (Ok tt) → CannotReceive n i i' e
    → Exchange {A = A} (connection_of i k b) (connection_of i' k' true) q n (Err e) answers
unanswered i i' k k' b q n e answers sending r = record {
  same = same_kind i i' k k' b true r.reads.limits;
  arrived = r.reads.arrived;
  gone = sending.gone;
  moves = moves i i' k k' b true r.reads.arrived r.reads.came r.reads.to_come sending;
  needed = r.reads.needed;
  of = missed i i' k k' b q n e sending r answers r.stops;
}

-- the call of a command that isn't refused
pub commanded : {A : Type 0} (old new : Connection) (c : Command) (q : List ℕ) (n : ℕ) (r : Result A RedisError)
    (answers : List Value → Type 0) → old.broken ≡ false → old.policy ≡ stays → (c.args ≡ [] → ⊥) → (IsUnanswered c → ⊥)
    → q ≡ packed c.args → n ≡ needed c → Exchange old new q n r answers
    → Call old new (c.args ≡ []) (IsUnanswered c) (packed c.args) (needed c) r answers
commanded old new c q n r answers works stay some answered is count h = record {
  policy = h.same.policy;
  when_broken = λ b _. absurd (let k : true ≡ false = sym b ∙ works in cc);
  when_lost = λ b _. absurd (let k : true ≡ false = sym b ∙ works in cc);
  when_routed = λ p. absurd (let k : stays ≡ routes = sym stay ∙ p in cc);
  when_working = λ _ _. record {
    when_empty = λ none. absurd (some none);
    when_unanswered = λ none. absurd (answered none);
    otherwise = λ _ _. rw (is, count) at h;
  };
}

-- What an exchange does where the source tells its bytes: those that are left follow what was taken.
use Rattle.std.proofs.Common.{◌≡◌, ℕ, ◌-◌, List, [], ◌∷◌, ◌++◌, refl, sym, ap, ◌∙◌, subst, append_assoc, append-nil}
use Rattle.std.proofs.Common.{Option, None}
use Rattle.std.proofs.Common.{Some, Result, inl, inr}
use Rattle.std.specs.Io.KnownBytes.{Consumes, IsAtEnd}
use Rattle.resp_errors.specs.declared.kinds.FrameFault.{FrameFault}
use Rattle.resp_errors.specs.declared.redis_error.RedisError.{RedisError}
use Rattle.resp_value.specs.declared.value.Value.{Value}
use Rattle.resp_parse.specs.declared.limits.Limits.{Limits}
use Rattle.resp_parse.proofs.LimitedReadings.{HasFault-longer}
use Rattle.resp_command.specs.Taken.{Frame, bytes_of, Aside, PrefixReads, MeetsFault, in_bytes, too_many_pushes, Taken}
use Rattle.resp_command.specs.Taken.{took}
use Rattle.resp_command.specs.Taken.{met_fault, ended_early}
use Rattle.resp_command.specs.Connection.{Connection, push_room, Bytes, ExchangeOf, Exchange, KnownExchange, replied}
use Rattle.resp_command.specs.Connection.{malformed}
use Rattle.resp_command.specs.Connection.{early_end, sink_failed, source_failed, out_of_memory, BrokenMidway}

pub prefix-longer : (l : Limits) (b rest x : List ℕ) (fs : List Frame) → PrefixReads l b fs rest
    → PrefixReads l (b ++ x) fs (rest ++ x)
prefix-longer l b rest x fs h = record {
  whole = ap (λ z. z ++ x) h.whole ∙ append_assoc (bytes_of fs) rest x;
  frames_are = h.frames_are;
}

fault-longer : (l : Limits) (room : ℕ) (rest x : List ℕ) (f : FrameFault) → MeetsFault l room rest f
    → MeetsFault l room (rest ++ x) f
fault-longer l room rest x f (in_bytes h) = in_bytes (HasFault-longer l rest x f h)
fault-longer l room rest x f (too_many_pushes e p) = too_many_pushes e (record {
  later = p.later ++ x;
  follows = record {
    push = p.follows.push;
    prefix = prefix-longer l rest p.later x (p.follows.push ∷ []) p.follows.prefix;
    is_push = p.follows.is_push;
  };
  passes = p.passes;
})

module _ (l : Limits) (room n : ℕ) (b x : List ℕ) where
  took-longer : (replies : List Value) (aside : Aside) (rest : List ℕ) → Taken l room n b (took replies aside rest)
      → Taken l room n (b ++ x) (took replies aside (rest ++ x))
  unfolding Taken
  took-longer replies aside rest h = record {
    frames = h.frames;
    prefix = prefix-longer l b rest x h.frames h.prefix;
    ends = h.ends;
    replies_are = h.replies_are;
    aside_is = h.aside_is;
    fits = h.fits;
  }

  fault_met-longer : (f : FrameFault) (aside : Aside) → Taken l room n b (met_fault f aside)
      → Taken l room n (b ++ x) (met_fault f aside)
  unfolding Taken
  fault_met-longer f aside h = record {
    frames = h.frames;
    rest = h.rest ++ x;
    prefix = prefix-longer l b h.rest x h.frames h.prefix;
    few = h.few;
    aside_is = h.aside_is;
    fits = h.fits;
    follows = fault-longer l (room - aside.bytes) h.rest x f h.follows;
  }

  none-longer : (aside : Aside) → x ≡ [] → Taken l room n b (ended_early aside)
      → Taken l room n (b ++ x) (ended_early aside)
  none-longer aside e h =
      subst (λ z. Taken l room n z (ended_early aside)) (sym (append-nil b) ∙ ap (λ z. b ++ z) (sym e)) h

-- the same bytes, and others that the source has yet to give
abbrev longer : Bytes → List ℕ → Bytes
longer bytes x = record { incoming = bytes.incoming ++ x; left = bytes.left ++ x; sent = bytes.sent }

module _ {A : Type 0} (bytes : Bytes) (old new : Connection) (q : List ℕ) (n : ℕ) (result : Result A RedisError)
    (answers : List Value → Type 0) (x : List ℕ) (known : new.to_come ≡ Some x) where
  midway-longer : BrokenMidway bytes old new q → BrokenMidway (longer bytes x) old new q
  midway-longer h = record {
    aside = h.aside;
    sent = h.sent;
    begun = h.begun;
    takes = record {
      frames = h.takes.frames;
      taken = prefix-longer old.limits bytes.incoming bytes.left x h.takes.frames h.takes.taken;
      listed = h.takes.listed;
      fits = h.takes.fits;
    };
    listed = h.listed;
    broken = h.broken;
  }

  exchange-longer : ExchangeOf bytes old new q n result answers → ExchangeOf (longer bytes x) old new q n result answers
  exchange-longer (replied h) = replied (record {
    replies = h.replies;
    aside = h.aside;
    enough = h.enough;
    sent = record { all = h.sent.all; flushed = h.sent.flushed };
    takes = took-longer old.limits (push_room old) n bytes.incoming x h.replies h.aside bytes.left h.takes;
    listed = h.listed;
    usable = h.usable;
    no_failure = h.no_failure;
    answer = h.answer;
  })
  exchange-longer (malformed h) = malformed (record {
    frame_fault = h.frame_fault;
    aside = h.aside;
    sent = record { all = h.sent.all; flushed = h.sent.flushed };
    takes = fault_met-longer old.limits (push_room old) n bytes.incoming x h.frame_fault h.aside h.takes;
    listed = h.listed;
    broken = h.broken;
    no_failure = h.no_failure;
    answer = h.answer;
  })
  exchange-longer (early_end h) = early_end (record {
    aside = h.aside;
    sent = record { all = h.sent.all; flushed = h.sent.flushed };
    takes = none-longer old.limits (push_room old) n bytes.incoming x h.aside (subst IsAtEnd known h.end) h.takes;
    end = h.end;
    listed = h.listed;
    broken = h.broken;
    no_failure = h.no_failure;
    answer = h.answer;
  })
  exchange-longer (sink_failed h) = sink_failed (record {
    sent = h.sent;
    unread = h.unread;
    listed = h.listed;
    broken = h.broken;
    source = h.source;
    counted = h.counted;
    answer = h.answer;
  })
  exchange-longer (source_failed h) = source_failed (record {
    aside = h.aside;
    sent = record { all = h.sent.all; flushed = h.sent.flushed };
    takes = record {
      frames = h.takes.frames;
      taken = prefix-longer old.limits bytes.incoming bytes.left x h.takes.frames h.takes.taken;
      few = h.takes.few;
      aside_is = h.takes.aside_is;
      fits = h.takes.fits;
      incomplete = h.takes.incomplete;
    };
    listed = h.listed;
    broken = h.broken;
    counted = h.counted;
    sink = h.sink;
    answer = h.answer;
  })
  exchange-longer (out_of_memory h) = out_of_memory (record {
    answer = h.answer;
    no_failure = h.no_failure;
    left = elim h.left [ inl e ↦ inl e | inr k ↦ inr (midway-longer k) ];
  })

-- what a source lost of the bytes that it tells
left-of : (later : List ℕ) (new : Option (List ℕ)) (arrived : List ℕ) → Consumes (Some later) new arrived
    → (rest : List ℕ) × (new ≡ Some rest) × (later ≡ arrived ++ rest)
left-of later None arrived h = absurd h
left-of later (Some rest) arrived h = (rest, refl, h)

pub known_exchange : {A : Type 0} (old new : Connection) (q : List ℕ) (n : ℕ) (result : Result A RedisError)
    (answers : List Value → Type 0) (later : List ℕ) → Exchange old new q n result answers → old.to_come ≡ Some later
    → KnownExchange old new later q n result answers
known_exchange old new q n result answers later h e =
    let r = left-of later new.to_come h.arrived
    (subst (λ known. Consumes known new.to_come h.arrived) e h.moves.to_come) in
    let all : (old.received ++ h.arrived) ++ r.0 ≡ old.received ++ later = append_assoc old.received h.arrived r.0
    ∙ ap (λ z. old.received ++ z) (sym r.2) in
    record {
      rest = r.0;
      gone = h.gone;
      to_come = r.1;
      sent = h.moves.sent;
      of = subst (λ z. ExchangeOf (record { incoming = z; left = new.received ++ r.0; sent = h.gone }) old new q n
          result answers) all
          (exchange-longer _ old new q n result answers r.0 r.1 h.of);
    }

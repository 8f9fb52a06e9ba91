-- What an exchange over a connection leaves holds, too, of the connection as another kind: one that takes several
-- commands at a time or not, and of another policy.
use Rattle.std.proofs.Common.{◌≡◌, ◌⊎◌, ℕ, Bool, List, Result, refl, ap, inl, inr}
use Rattle.resp_value.specs.declared.value.Value.{Value}
use Rattle.resp_errors.specs.declared.redis_error.RedisError.{RedisError}
use Rattle.resp_command.specs.Call.{Asks}
use Rattle.resp_command.specs.Connection as connection
use Rattle.resp_command.specs.Connection.{Connection, LinkPolicy, SameKind, Bytes, NoFailure, SetsAside, Exchange}
use Rattle.resp_command.specs.Connection.{ExchangeOf, RanOutOfMemory, BrokenMidway}
use Rattle.resp_command.specs.Taken.{Aside, no_pushes}

-- a connection as it is, but for its policy, and for whether it takes several commands at a time
abbrev pub of_kind : (Bool → Bool) → LinkPolicy → Connection → Connection
of_kind several policy c = record c { pipelines = several c.pipelines; policy = policy }

module _ {A : Type 0} (several : Bool → Bool) (policy : LinkPolicy) (old new : Connection) (q : List ℕ) (n : ℕ)
    (r : Result A RedisError) (answers : List Value → Type 0) where
  abbrev old' : Connection
  old' = of_kind several policy old

  abbrev new' : Connection
  new' = of_kind several policy new

  no_failure : NoFailure old new → NoFailure old' new'
  no_failure h = record { source = h.source; sink = h.sink }

  listed : (aside : Aside) → SetsAside old new aside → SetsAside old' new' aside
  listed aside h = record { pushes = h.pushes; bytes = h.bytes }

  midway : (bytes : Bytes) → BrokenMidway bytes old new q → BrokenMidway bytes old' new' q
  midway bytes h = record {
    aside = h.aside;
    sent = h.sent;
    begun = h.begun;
    takes = h.takes;
    listed = listed h.aside h.listed;
    broken = h.broken;
  }

  no_memory : (bytes : Bytes) → RanOutOfMemory bytes old new q r → RanOutOfMemory bytes old' new' q r
  no_memory bytes h = record {
    answer = h.answer;
    no_failure = no_failure h.no_failure;
    left = by_left h.left;
  }
    where
      by_left : ((new ≡ old) ⊎ BrokenMidway bytes old new q) → ((new' ≡ old') ⊎ BrokenMidway bytes old' new' q)
      by_left (inl same) = inl (ap (of_kind several policy) same)
      by_left (inr broken) = inr (midway bytes broken)

  exchange_of : (bytes : Bytes) → ExchangeOf bytes old new q n r answers → ExchangeOf bytes old' new' q n r answers
  exchange_of bytes (connection.replied h) = connection.replied (record {
    replies = h.replies;
    aside = h.aside;
    enough = h.enough;
    sent = record { all = h.sent.all; flushed = h.sent.flushed };
    takes = h.takes;
    listed = listed h.aside h.listed;
    usable = h.usable;
    no_failure = no_failure h.no_failure;
    answer = h.answer;
  })
  exchange_of bytes (connection.malformed h) = connection.malformed (record {
    frame_fault = h.frame_fault;
    aside = h.aside;
    sent = record { all = h.sent.all; flushed = h.sent.flushed };
    takes = h.takes;
    listed = listed h.aside h.listed;
    broken = h.broken;
    no_failure = no_failure h.no_failure;
    answer = h.answer;
  })
  exchange_of bytes (connection.early_end h) = connection.early_end (record {
    aside = h.aside;
    sent = record { all = h.sent.all; flushed = h.sent.flushed };
    takes = h.takes;
    end = h.end;
    listed = listed h.aside h.listed;
    broken = h.broken;
    no_failure = no_failure h.no_failure;
    answer = h.answer;
  })
  exchange_of bytes (connection.sink_failed h) = connection.sink_failed (record {
    sent = h.sent;
    unread = record { received = h.unread.received; came = h.unread.came };
    listed = listed no_pushes h.listed;
    broken = h.broken;
    source = h.source;
    counted = h.counted;
    answer = h.answer;
  })
  exchange_of bytes (connection.source_failed h) = connection.source_failed (record {
    aside = h.aside;
    sent = record { all = h.sent.all; flushed = h.sent.flushed };
    takes = record {
      frames = h.takes.frames;
      taken = h.takes.taken;
      few = h.takes.few;
      aside_is = h.takes.aside_is;
      fits = h.takes.fits;
      incomplete = h.takes.incomplete;
    };
    listed = listed h.aside h.listed;
    broken = h.broken;
    counted = h.counted;
    sink = h.sink;
    answer = h.answer;
  })
  exchange_of bytes (connection.out_of_memory h) = connection.out_of_memory (no_memory bytes h)

  pub exchange : Exchange old new q n r answers → Exchange old' new' q n r answers
  exchange h = record {
    same = record {
      pipelines = ap several h.same.pipelines;
      policy = refl;
      limits = h.same.limits;
      read_size = h.same.read_size;
    };
    arrived = h.arrived;
    gone = h.gone;
    moves = record { came = h.moves.came; sent = h.moves.sent; to_come = h.moves.to_come; holds = h.moves.holds };
    needed = h.needed;
    of = exchange_of _ h.of;
  }

  pub asks : (IsEmpty IsUnanswered : Type 0) → Asks old new IsEmpty IsUnanswered q n r answers
      → Asks old' new' IsEmpty IsUnanswered q n r answers
  asks IsEmpty IsUnanswered h = record {
    when_empty = λ none. record {
      answer = (h.when_empty none).answer;
      same = ap (of_kind several policy) (h.when_empty none).same;
    };
    when_unanswered = λ none. record {
      answer = (h.when_unanswered none).answer;
      same = ap (of_kind several policy) (h.when_unanswered none).same;
    };
    otherwise = λ some answered. exchange (h.otherwise some answered);
  }

-- What a receiver of replies does: it reads values, sets pushes aside, and stops at a reply or at
-- what is none.
use Rattle.std.specs.Prelude.{◌≡◌, ℕ, ◌+◌, ◌-◌, ◌<◌, ◌≤◌, Option, List, [], ◌∷◌, ◌++◌, length}
use Rattle.std.specs.Io.KnownBytes.{Consumes, IsAtEnd}
use Rattle.resp_value.specs.declared.value.Value.{Value}
use Rattle.resp_value.specs.declared.value.PushInfo.{PushInfo}
use Rattle.resp_errors.specs.declared.kinds.FrameFault.{FrameFault}
use Rattle.resp_errors.specs.declared.kinds.FrameFault.TheVariants.{TooManyPushes}
use Rattle.resp_errors.specs.Errors.{error_of_io}
use Rattle.resp_errors.specs.declared.kinds.IoKind.{IoKind}
use Rattle.resp_errors.specs.declared.kinds.IoKind.TheVariants.{UnexpectedEof}
use Rattle.resp_errors.specs.declared.parsing_error.ParsingError.TheVariants as parsing
use Rattle.resp_errors.specs.declared.redis_error.RedisError.{RedisError}
use Rattle.resp_errors.specs.declared.redis_error.RedisError.TheVariants as form
use Rattle.resp_parse.specs.declared.limits.Limits.{Limits}
use Rattle.resp_parse.specs.Limited.{Awaits}
use Rattle.resp_parse.specs.Source.{Source, FailureCounted}
use Rattle.resp_parse.specs.State.{State}
use Rattle.resp_command.specs.Taken.{Frame, ArrivedAsNeeded, PrefixReads, FollowsPush, MeetsFault, EndsAtReply}
use Rattle.resp_command.specs.Taken.{replies_in, pushes_in, push_bytes}

pub record Inflow : Type 0 where
  -- all bytes that came
  pub came : List ℕ
  -- those of them that aren't taken
  pub received : List ℕ
  -- those that the source has yet to give, where it tells them
  pub to_come : Option (List ℕ)
  -- how deep and how long the values may be that are read, and how many bytes of pushes are set
  -- aside
  pub limits : Limits
  -- the pushes that were set aside, and how many bytes spelled them
  pub pushes : List PushInfo
  pub push_bytes : ℕ
  -- how often the source has failed
  pub failures : ℕ

-- how many bytes one read asks for at most
abbrev pub read_size : ℕ
read_size = 4096

-- what a parser has received since the last value, and what is known of its source
abbrev pub inflow_of : State → Source → List PushInfo → ℕ → Inflow
inflow_of parser source pushes size = record {
  came = source.came;
  received = parser.since;
  to_come = source.to_come;
  limits = parser.limits;
  pushes = pushes;
  push_bytes = size;
  failures = source.failures;
}

-- a source of whose bytes none is kept, for values within the limits
abbrev pub unread : Limits → Source → Inflow
unread l source = record {
  came = source.came;
  received = [];
  to_come = source.to_come;
  limits = l;
  pushes = [];
  push_bytes = 0;
  failures = source.failures;
}

-- how many bytes of pushes may still be set aside
abbrev pub room : Inflow → ℕ
room i = i.limits.pushes - i.push_bytes

-- bytes came, no more than n replies need; in those that were received before and these, frames
-- were read, and the rest follows; there was room for the pushes
pub record Reads (n : ℕ) (old new : Inflow) (frames : List Frame) (rest : List ℕ) : Type 0 where
  pub arrived : List ℕ
  pub came : new.came ≡ old.came ++ arrived
  pub to_come : Consumes old.to_come new.to_come arrived
  pub needed : ArrivedAsNeeded old.limits (room old) read_size n old.received arrived
  pub prefix : PrefixReads old.limits (old.received ++ arrived) frames rest
  pub fits : push_bytes frames ≤ room old
  pub limits : new.limits ≡ old.limits
  pub pushes : new.pushes ≡ old.pushes ++ pushes_in frames
  pub size : new.push_bytes ≡ old.push_bytes + push_bytes frames

-- why no frame comes after those that were read, in the rest: a fault, the end of the source or its
-- failure, where more were needed; or out of memory, perhaps for the place of a push
pub data StopsReceiving (Needed : Type 0) (old new : Inflow) (rest : List ℕ) (e : RedisError) : Type 0 where
  malformed : (f : FrameFault) → Needed → e ≡ form.Parse (parsing.Fault f) →
      MeetsFault old.limits (room new) rest f → new.failures ≡ old.failures →
      StopsReceiving Needed old new rest e
  early_end : Needed → e ≡ form.Io UnexpectedEof → Awaits old.limits rest → IsAtEnd new.to_come →
      new.failures ≡ old.failures → StopsReceiving Needed old new rest e
  source_failed : (kind : IoKind) → Needed → e ≡ error_of_io kind → Awaits old.limits rest →
      new.received ≡ rest → FailureCounted old.failures new.failures →
      StopsReceiving Needed old new rest e
  out_of_memory : e ≡ form.OutOfMemory → new.received ≡ rest → new.failures ≡ old.failures →
      StopsReceiving Needed old new rest e
  no_room : e ≡ form.OutOfMemory → FollowsPush old.limits rest new.received →
      new.failures ≡ old.failures → StopsReceiving Needed old new rest e

-- n replies came
pub record Receives (n : ℕ) (old new : Inflow) (replies : List Value) : Type 0 where
  pub frames : List Frame
  pub reads : Reads n old new frames new.received
  pub ends : EndsAtReply n frames
  pub replies_are : replies ≡ replies_in frames
  pub failures : new.failures ≡ old.failures

-- fewer than n replies came and then none, or memory ran out
pub record CannotReceive (n : ℕ) (old new : Inflow) (e : RedisError) : Type 0 where
  pub frames : List Frame
  pub rest : List ℕ
  pub reads : Reads n old new frames rest
  pub stops : StopsReceiving (length (replies_in frames) < n) old new rest e

-- n replies came and were dropped
pub record Skips (n : ℕ) (old new : Inflow) : Type 0 where
  pub replies : List Value
  pub received : Receives n old new replies

-- a push was set aside, which this many bytes spelled
pub record SetsAside (push : PushInfo) (size limit : ℕ) (old new : List PushInfo) (before after : ℕ) : Type 0 where
  pub fits : size ≤ limit - before
  pub listed : new ≡ old ++ push ∷ []
  pub counted : after ≡ before + size

-- why it wasn't: it would pass the limit, or memory ran out
pub data CannotSetAside (size limit before : ℕ) (e : RedisError) : Type 0 where
  too_many : e ≡ form.Parse (parsing.Fault TooManyPushes) → limit - before < size →
      CannotSetAside size limit before e
  out_of_room : e ≡ form.OutOfMemory → CannotSetAside size limit before e

-- What the calls of a parser answer that stood after b: how it stands then, and, where a source was
-- asked, how that went from s to t, and that what was filled is all that was received.
use Rattle.std.specs.Prelude.{◌≡◌, ◌≢◌, ◌<◌, ◌≤◌, ◌+◌, ℕ, Bool, true, false, List, [], ◌++◌, length, Option, None, Some}
use Rattle.std.specs.Prelude.{Result, Ok, Err}
use Rattle.std.specs.Io.KnownBytes.{IsAtEnd}
use Rattle.resp_value.specs.declared.value.Value.{Value}
use Rattle.resp_flat.specs.declared.flat_reply.FlatReply.{FlatReply}
use Rattle.resp_flat.specs.FlatReplies.{IsFlatOf}
use Rattle.resp_errors.specs.Errors.{error_of_io}
use Rattle.resp_errors.specs.declared.kinds.FrameFault.{FrameFault}
use Rattle.resp_errors.specs.declared.kinds.IoKind.{IoKind}
use Rattle.resp_errors.specs.declared.kinds.IoKind.TheVariants.{UnexpectedEof}
use Rattle.resp_errors.specs.declared.parsing_error.ParsingError.TheVariants as parsing
use Rattle.resp_errors.specs.declared.redis_error.RedisError.{RedisError}
use Rattle.resp_errors.specs.declared.redis_error.RedisError.TheVariants as form
use Rattle.resp_parse.specs.declared.limits.Limits.{Limits}
use Rattle.resp_parse.specs.Limited.{HasValue, HasFault, Awaits}
use Rattle.resp_parse.specs.State.{State, StandsAfter, FailedAfter, IsBetweenValues}
use Rattle.resp_parse.specs.Source.{Source, SourceGave, FailureCounted, fresh_source}

-- Feeding.

-- bytes were added; or memory ran out, and nothing changed
abbrev pub Feeds : List ℕ → List ℕ → State → State → Result (Unit {0}) RedisError → Type 0
Feeds b bytes old new (Ok u) = StandsAfter new (b ++ bytes)
Feeds b bytes old new (Err e) = (e ≡ form.OutOfMemory) × (new ≡ old)

-- Taking a value.

-- why no value can be taken, now or later, within the limits
pub data CannotTake (l : Limits) (b : List ℕ) (e : RedisError) : Type 0 where
  malformed : (f : FrameFault) → e ≡ form.Parse (parsing.Fault f) → HasFault l b f → CannotTake l b e
  out_of_memory : e ≡ form.OutOfMemory → CannotTake l b e

-- the value at the start was handed out, and its bytes were counted
pub record HandsOut (b : List ℕ) (v : Value) (new : State) : Type 0 where
  pub value : HasValue new.limits b v new.unparsed
  pub rest : IsBetweenValues new
  pub size : length b ≡ new.value_len + length new.unparsed

-- the value at the start was taken; or it is incomplete; or the parser has failed
abbrev pub Takes : List ℕ → State → Result (Option Value) RedisError → Type 0
Takes b new (Ok (Some v)) = HandsOut b v new
Takes b new (Ok None) = Awaits new.limits b × StandsAfter new b
Takes b new (Err e) = CannotTake new.limits b e × FailedAfter new b

-- the same in a place for what shows a value, which is as it was where no value is taken
abbrev pub TakesInto : {T : Type 0} → (T → Value → Type 0) → List ℕ → State → T → T → Result Bool RedisError → Type 0
TakesInto shows b new before after (Ok true) = (v : Value) × (shows after v × Takes b new (Ok (Some v)))
TakesInto shows b new before after (Ok false) = Takes b new (Ok None) × (after ≡ before)
TakesInto shows b new before after (Err e) = Takes b new (Err e) × (after ≡ before)

-- the same in a flat reply
abbrev pub TakesFlat : List ℕ → State → FlatReply → FlatReply → Result Bool RedisError → Type 0
TakesFlat = TakesInto IsFlatOf

-- Asking a source once.

-- as many bytes more were received as these are
abbrev pub Received : List ℕ → State → State → Type 0
Received filled old new = new.counts.received ≡ old.counts.received + length filled

-- the parser stands after b and what was filled; the source counted no failure
pub record Filled (b : List ℕ) (old new : State) (s t : Source) : Type 0 where
  pub filled : List ℕ
  pub source_gave : SourceGave s filled t
  pub received : Received filled old new
  pub stands : StandsAfter new (b ++ filled)
  pub failures : t.failures ≡ s.failures

-- why nothing was filled
pub data CannotFill (b : List ℕ) (e : RedisError) (new : State) (s t : Source) : Type 0 where
  early_end : e ≡ form.Io UnexpectedEof → SourceGave s [] t → IsAtEnd t.to_come →
      t.failures ≡ s.failures → FailedAfter new b → CannotFill b e new s t
  source_failed : (kind : IoKind) → e ≡ error_of_io kind → SourceGave s [] t →
      FailureCounted s.failures t.failures → StandsAfter new b → CannotFill b e new s t
  out_of_memory : e ≡ form.OutOfMemory → SourceGave s [] t → t.failures ≡ s.failures →
      FailedAfter new b → CannotFill b e new s t

-- some bytes were filled, at most 4,096
pub record FilledSome (b : List ℕ) (old new : State) (s t : Source) : Type 0 where
  pub more : Filled b old new s t
  pub some : 0 < length more.filled
  pub size : length more.filled ≤ 4096

-- some bytes were filled, or why none were
abbrev pub Asks : List ℕ → State → State → Source → Source → Result (Unit {0}) RedisError → Type 0
Asks b old new s t (Ok u) = FilledSome b old new s t
Asks b old new s t (Err e) = CannotFill b e new s t

-- Parsing: a source is asked as often as a value needs.

-- bytes were filled only while there were too few: before the last of them, up to 4,096, more were
-- awaited within the limits
pub record AsNeeded (l : Limits) (b filled : List ℕ) : Type 0 where
  pub before : List ℕ
  pub last : List ℕ
  pub whole : filled ≡ before ++ last
  pub some : last ≡ [] → before ≡ []
  pub size : length last ≤ 4096
  pub awaited : last ≢ [] → Awaits l (b ++ before)

-- the value at the start of b and what was filled: all that follows it is buffered; the source
-- counted no failure
pub record Parsed (b : List ℕ) (v : Value) (old new : State) (s t : Source) : Type 0 where
  pub filled : List ℕ
  pub source_gave : SourceGave s filled t
  pub received : Received filled old new
  pub needed : AsNeeded new.limits b filled
  pub value : HasValue new.limits (b ++ filled) v new.unparsed
  pub rest : IsBetweenValues new
  pub size : length (b ++ filled) ≡ new.value_len + length new.unparsed
  pub failures : t.failures ≡ s.failures

-- the parser has failed after b and what was filled; the source counted no failure
pub record Failed (b filled : List ℕ) (old new : State) (s t : Source) : Type 0 where
  pub source_gave : SourceGave s filled t
  pub received : Received filled old new
  pub needed : AsNeeded new.limits b filled
  pub failed : FailedAfter new (b ++ filled)
  pub failures : t.failures ≡ s.failures

-- the source failed: the parser stands after b and what was filled, after which more is awaited
pub record StandsMidway (b : List ℕ) (old new : State) (s t : Source) : Type 0 where
  pub filled : List ℕ
  pub source_gave : SourceGave s filled t
  pub received : Received filled old new
  pub needed : AsNeeded new.limits b filled
  pub awaits : Awaits new.limits (b ++ filled)
  pub stands : StandsAfter new (b ++ filled)
  pub failures : FailureCounted s.failures t.failures

-- why no value is parsed: a fault in b and what was filled; the end of the source before that of a
-- value; its failure; out of memory
pub data CannotParse (b : List ℕ) (e : RedisError) (old new : State) (s t : Source) : Type 0 where
  malformed : (f : FrameFault) (filled : List ℕ) → e ≡ form.Parse (parsing.Fault f) →
      HasFault new.limits (b ++ filled) f → Failed b filled old new s t →
      CannotParse b e old new s t
  early_end : (filled : List ℕ) → e ≡ form.Io UnexpectedEof →
      Awaits new.limits (b ++ filled) → IsAtEnd t.to_come →
      Failed b filled old new s t → CannotParse b e old new s t
  source_failed : (kind : IoKind) → e ≡ error_of_io kind → StandsMidway b old new s t →
      CannotParse b e old new s t
  out_of_memory : (filled : List ℕ) → e ≡ form.OutOfMemory → Failed b filled old new s t →
      CannotParse b e old new s t

abbrev pub Parses : List ℕ → State → State → Source → Source → Result Value RedisError → Type 0
Parses b old new s t (Ok v) = Parsed b v old new s t
Parses b old new s t (Err e) = CannotParse b e old new s t

-- the same of a reader that was used up, for a state that it came to, its failures, and the bytes
-- that came from it
pub record ParsesReader {R : Type 0} (remaining : R → Option (List ℕ)) (b : List ℕ)
    (old new : State) (reader : R) (r : Result Value RedisError) : Type 0 where
  pub left : R
  pub failures : ℕ
  pub came : List ℕ
  pub parses : Parses b old new (fresh_source (remaining reader))
      (record { came = came; to_come = remaining left; failures = failures }) r

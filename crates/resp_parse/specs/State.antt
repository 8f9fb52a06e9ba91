-- What a parser holds.
use Rattle.std.specs.Prelude.{◌≡◌, ℕ, Bool, true, false, List, codes, Option, None, IsSome, Result, Ok, Err}
use Rattle.std.proofs.Props.{props}
use Rattle.resp_parse.specs.Counts.{Counts}
use Rattle.resp_parse.specs.declared.limits.Limits.{Limits}
use Rattle.resp_errors.specs.declared.parsing_error.ParsingError.TheVariants as parsing
use Rattle.resp_errors.specs.declared.redis_error.RedisError.{RedisError}
use Rattle.resp_errors.specs.declared.redis_error.RedisError.TheVariants as form
use Rattle.resp_parse.specs.declared.read_error.ReadError.{ReadError}
use Rattle.resp_parse.specs.declared.read_error.ReadError.TheVariants.{Memory, Fault}

-- the limits on what is read as a value; the bytes that are buffered and not yet parsed, and how
-- many of them were looked at; those since the last value that was handed out, and how many spelled
-- that value; whether the parser
-- has failed, and after how many of these bytes a fault showed, if one was answered; how many
-- aggregates are open, of aggregates whose header was read and whose elements aren't all there; of
-- the value in progress, how many values of a tree, those inside others too, and how many tokens of
-- a flat reply stand in memory; and what the parser has done
pub record State : Type 0 where
  pub limits : Limits
  pub unparsed : List ℕ
  pub looked : ℕ
  pub since : List ℕ
  pub value_len : ℕ
  pub failed : Bool
  pub fault_offset : Option ℕ
  pub open_aggregates : ℕ
  pub values : ℕ
  pub tokens : ℕ
  pub counts : Counts

-- the parser works, and b are the bytes since the last value that it handed out
unfoldable pub StandsAfter : State → List ℕ → Type 0
StandsAfter s b = (s.failed ≡ false) × (b ≡ s.since)

-- the parser has failed, and b are the bytes from the last value handed out up to the failure
unfoldable pub FailedAfter : State → List ℕ → Type 0
FailedAfter s b = (s.failed ≡ true) × (b ≡ s.since)

-- the parser has looked at no byte after the last value: it stands after the bytes that it holds,
-- and after no others
pub record IsBetweenValues (s : State) : Type 0 where
  pub stands : StandsAfter s s.unparsed
  pub only : (b : List ℕ) → StandsAfter s b → b ≡ s.unparsed

-- a fault has a place, and no other error has one
abbrev pub HasOffset : RedisError → Option ℕ → Type 0
HasOffset (form.Parse (parsing.Fault f)) offset = IsSome offset
HasOffset _ offset = offset ≡ None

-- the place of a fault is kept exactly where a fault is answered
abbrev pub KeepsFaultOffset : {X : Type 0} → State → Result X RedisError → Type 0
KeepsFaultOffset s (Ok x) = s.fault_offset ≡ None
KeepsFaultOffset s (Err e) = HasOffset e s.fault_offset

-- what a call answers where a value can't be read
abbrev pub refusal_of : ReadError → RedisError
refusal_of Memory = form.OutOfMemory
refusal_of (Fault f) = form.Parse (parsing.Fault f)

abbrev pub answered : {X : Type 0} → Result X ReadError → Result X RedisError
answered (Ok x) = Ok x
answered (Err e) = Err (refusal_of e)

-- what a parser that has failed answers
abbrev pub has_failed : RedisError
has_failed = form.Parse (parsing.Described (codes "parser has failed"))

-- there is at most one proof that a parser stands between values
pub IsBetweenValues-prop : (s : State) → IsProp (IsBetweenValues s)
unfolding StandsAfter
IsBetweenValues-prop s = hlevel props

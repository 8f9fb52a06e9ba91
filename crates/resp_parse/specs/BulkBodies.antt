-- A bulk string whose header is taken alone, so that its body is taken in pieces.
use Rattle.std.specs.Prelude.{◌≡◌, ℕ, ◌+◌, ◌-◌, List, ◌++◌, length, drop, Option, MatchOption, Result, Ok, Err}
use Rattle.std.specs.Str.{IsUtf8}
use Rattle.resp_value.specs.declared.value.Value.{BulkString}
use Rattle.resp_errors.specs.declared.redis_error.RedisError.{RedisError}
use Rattle.resp_parse.specs.declared.limits.Limits.{Limits}
use Rattle.resp_parse.specs.declared.decoder.bulk_header.BulkHeader.{BulkHeader}
use Rattle.resp_parse.specs.declared.decoder.bulk_header.Start.{Start}
use Rattle.resp_parse.specs.declared.decoder.bulk_header.Start.TheVariants.{Bulk, Other, Unknown}
use Rattle.resp_parse.specs.declared.type_byte.TypeByte.TheVariants as type_byte
use Rattle.resp_parse.specs.Lines.{Scanned}
use Rattle.resp_parse.specs.Number.{length_in}
use Rattle.resp_parse.specs.Grammar.{Header}
use Rattle.resp_parse.specs.Prefixes.{HasWellFormedPrefix, IsIncomplete}
use Rattle.resp_parse.specs.Limited.{HasValue}
use Rattle.resp_parse.specs.Source.{Source, SourceGave}
use Rattle.resp_parse.specs.State.{State, IsBetweenValues}
use Rattle.resp_parse.specs.Calls.{Received, AsNeeded, CannotParse}

-- the bytes begin with the header of a bulk string, which announces a body of n bytes, and these
-- bytes follow it
pub record OpensBody (b : List ℕ) (n : ℕ) (after : List ℕ) : Type 0 where
  pub text : List ℕ
  pub header : Header b type_byte.BulkString text after
  pub text_is_utf8 : IsUtf8 text
  pub len : length_in text ≡ Ok n

-- a header of this many bytes does
pub record OpensBulk (b : List ℕ) (h : BulkHeader) : Type 0 where
  pub opens : OpensBody b h.body_len (drop h.header_len b)
  pub len : h.header_len ≡ length opens.text + 3

-- whatever bytes come, no bulk string with a body comes first
abbrev pub BeginsOther : List ℕ → Type 0
BeginsOther b = (d : ℕ) (later rest body : List ℕ) →
    HasWellFormedPrefix d (b ++ later) (BulkString body) rest → ⊥

-- no line has ended
pub record InHeader (b : List ℕ) : Type 0 where
  pub looked : Scanned (drop 1 b) (length b - 1)
  pub incomplete : (d : ℕ) → IsIncomplete (d + 1) b

-- what the bytes begin with
abbrev pub Starts : List ℕ → Start → Type 0
Starts b (Bulk h) = OpensBulk b h
Starts b Other = BeginsOther b
Starts b Unknown = InHeader b

-- within the limits no bulk string with a body comes first
abbrev pub NoBulk : Limits → List ℕ → Type 0
NoBulk l b = (later rest body : List ℕ) → HasValue l (b ++ later) (BulkString body) rest → ⊥

-- bytes were filled until it was known whether a bulk string with a body comes first; all of them
-- are unparsed
pub record Finds (b : List ℕ) (old new : State) (s t : Source) (found : Option BulkHeader) : Type 0 where
  pub filled : List ℕ
  pub source_gave : SourceGave s filled t
  pub received : Received filled old new
  pub needed : AsNeeded new.limits b filled
  pub held : new.unparsed ≡ b ++ filled
  pub rest : IsBetweenValues new
  pub failures : t.failures ≡ s.failures
  pub what : MatchOption found (NoBulk new.limits new.unparsed) (OpensBulk new.unparsed)

-- it isn't known: no value can be parsed
abbrev pub Looks : List ℕ → State → State → Source → Source → Result (Option BulkHeader) RedisError → Type 0
Looks b old new s t (Ok found) = Finds b old new s t found
Looks b old new s t (Err e) = CannotParse b e old new s t

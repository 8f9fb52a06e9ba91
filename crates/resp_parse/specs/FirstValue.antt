-- What is read from the start of bytes that are all there.
use Rattle.std.specs.Prelude.{◌≡◌, ℕ, List, Result, Ok, Err}
use Rattle.resp_value.specs.declared.value.Value.{Value}
use Rattle.resp_errors.specs.declared.kinds.FrameFault.{FrameFault}
use Rattle.resp_errors.specs.declared.kinds.IoKind.TheVariants.{UnexpectedEof}
use Rattle.resp_errors.specs.declared.parsing_error.ParsingError.TheVariants as parsing
use Rattle.resp_errors.specs.declared.redis_error.RedisError.{RedisError}
use Rattle.resp_errors.specs.declared.redis_error.RedisError.TheVariants as form
use Rattle.resp_parse.specs.Limits.{usual}
use Rattle.resp_parse.specs.Limited.{HasValue, HasFault, Awaits}

-- why no value is read from all of the bytes
pub data RefusesFirst (b : List ℕ) (e : RedisError) : Type 0 where
  malformed : (f : FrameFault) → e ≡ form.Parse (parsing.Fault f) → HasFault usual b f →
      RefusesFirst b e
  incomplete : e ≡ form.Io UnexpectedEof → Awaits usual b → RefusesFirst b e
  out_of_memory : e ≡ form.OutOfMemory → RefusesFirst b e

-- the value at the start of the bytes, or why there is none
abbrev pub ParsesFirst : List ℕ → Result Value RedisError → Type 0
ParsesFirst b (Ok v) = (rest : List ℕ) × HasValue usual b v rest
ParsesFirst b (Err e) = RefusesFirst b e

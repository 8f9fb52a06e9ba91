-- How a call is refused that reads tokens and a text.
use Rattle.std.specs.Prelude.{◌≡◌, ◌⊎◌, codes, None}
use Rattle.resp_errors.specs.declared.redis_error.RedisError.{RedisError}
use Rattle.resp_errors.specs.declared.redis_error.RedisError.TheVariants.{General, OutOfMemory}
use Rattle.resp_errors.specs.declared.kinds.ErrorKind.TheVariants.{Client}
use Rattle.resp_flat.specs.declared.flat_error.FlatError.{FlatError}
use Rattle.resp_flat.specs.declared.flat_error.FlatError.TheVariants.{Memory, NotReply}

-- what tokens and a text that are no value's are refused with
abbrev pub no_value : RedisError
no_value = General Client (codes "the tokens and the text are no value's") None

-- memory ran out, or they are no value's
abbrev pub IsRefusal : RedisError → Type 0
IsRefusal error = (error ≡ OutOfMemory) ⊎ (error ≡ no_value)

-- what a call answers for the reason
abbrev pub RefusalFor : FlatError → RedisError → Type 0
RefusalFor Memory error = error ≡ OutOfMemory
RefusalFor NotReply error = error ≡ no_value

-- What is sent for a value, by the version of the protocol.
use Rattle.std.specs.Prelude.{◌≡◌, ◌⊎◌, ℕ, List, Option, None}
use Rattle.resp_value.specs.declared.value.Value.{Value}
use Rattle.resp_errors.specs.declared.redis_error.RedisError.{RedisError}
use Rattle.resp_errors.specs.declared.redis_error.RedisError.TheVariants.{OutOfMemory}
use Rattle.resp_errors.specs.declared.kinds.ErrorKind.TheVariants.{Client}
use Rattle.resp_errors.specs.Errors.{kind_of}
use Rattle.resp_args.specs.declared.options.ProtocolVersion.{ProtocolVersion}
use Rattle.resp_args.specs.declared.options.ProtocolVersion.TheVariants.{RESP2, RESP3}
use Rattle.resp_encode.specs.declared.write_error.WriteError.{WriteError}
use Rattle.resp_encode.specs.declared.write_error.WriteError.TheVariants.{Memory, NoSpelling}
use Rattle.resp_encode.specs.Encoding.{encoding}
use Rattle.resp_encode.specs.Resp2Encoding.{resp2_encoding}

-- the bytes for a value in a version of the protocol, where so many levels are left
abbrev pub encoding_in : ProtocolVersion → ℕ → Value → Option (List ℕ)
encoding_in RESP2 = resp2_encoding
encoding_in RESP3 = encoding

-- memory ran out; or there are no bytes, and the error is a client's
abbrev pub RefusesValue : Option (List ℕ) → RedisError → Type 0
RefusesValue bytes error = (error ≡ OutOfMemory) ⊎ ((bytes ≡ None) × (kind_of error ≡ Client))

-- what a call answers for the reason
abbrev pub RefusalFor : WriteError → RedisError → Type 0
RefusalFor Memory error = error ≡ OutOfMemory
RefusalFor NoSpelling error = kind_of error ≡ Client

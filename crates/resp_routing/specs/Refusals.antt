-- The error of a routing error: what a caller of a connection is given.
use Rattle.std.specs.Prelude.{ℕ, List, codes, None, Some}
use Rattle.resp_errors.specs.declared.kinds.ErrorKind.TheVariants.{Client}
use Rattle.resp_errors.specs.declared.kinds.ServerErrorKind.TheVariants as server
use Rattle.resp_errors.specs.declared.redis_error.RedisError.{RedisError}
use Rattle.resp_errors.specs.declared.redis_error.RedisError.TheVariants as form
use Rattle.resp_errors.specs.declared.server_error.ServerError.TheVariants.{Known}
use Rattle.resp_routing.specs.declared.errors.RoutingError.{RoutingError}
use Rattle.resp_routing.specs.declared.errors.RoutingError.TheVariants as refused

abbrev pub refusal_text : RoutingError → List ℕ
refusal_text refused.UnknownCommand = codes "no such command in the table"
refusal_text refused.WrongArity = codes "wrong number of arguments for the command"
refusal_text refused.MissingKeyword = codes "the word before the keys is missing"
refusal_text refused.BadKeyCount = codes "the number of keys isn't a number, or too small"
refusal_text refused.TooFewArguments = codes "fewer arguments than keys"
refusal_text refused.Unspecified = codes "which arguments are keys isn't specified"
refusal_text refused.CrossSlot = codes "Keys in request don't hash to the same slot"
refusal_text refused.OutOfMemory = codes "out of memory"

-- keys in several slots are refused as the server refuses them
abbrev pub redis_error_of : RoutingError → RedisError
redis_error_of refused.OutOfMemory = form.OutOfMemory
redis_error_of refused.CrossSlot = form.Server (Known server.CrossSlot (Some (refusal_text refused.CrossSlot)))
redis_error_of refusal = form.General Client (refusal_text refusal) None

-- What taking the next request from a parser answers, and how the parser stands then.
use Rattle.std.specs.Prelude.{◌≡◌, ◌⊎◌, ℕ, false, codes, List, Option, None, Some, Result, Ok, Err}
use Rattle.resp_value.specs.declared.value.Value.{Value}
use Rattle.resp_errors.specs.declared.redis_error.RedisError.{RedisError}
use Rattle.resp_errors.specs.declared.redis_error.RedisError.TheVariants as form
use Rattle.resp_errors.specs.declared.kinds.ErrorKind.TheVariants.{Client}
use Rattle.resp_parse.specs.State.{State}
use Rattle.resp_parse.specs.Calls.{Takes}
use Rattle.resp_args.specs.Args.{Args}
use Rattle.resp_command.specs.Packed.{as_value}
use Rattle.resp_server.specs.Requests.{is_request}

-- what a client is refused with that sends another value
abbrev pub no_request : RedisError
no_request = form.General Client (codes "request is not an array of bulk strings") None

-- a value was taken that is no request; the bytes after it are kept
pub record TakesOther (b : List ℕ) (new : State) (e : RedisError) : Type 0 where
  pub value : Value
  pub taken : Takes b new (Ok (Some value))
  pub other : is_request value ≡ false
  pub error : e ≡ no_request

-- the request at the start was taken; or it is incomplete; or the parser has failed, or took a
-- value that is no request
abbrev pub TakesRequest : List ℕ → State → Result (Option Args) RedisError → Type 0
TakesRequest b new (Ok (Some args)) = Takes b new (Ok (Some (as_value args)))
TakesRequest b new (Ok None) = Takes b new (Ok None)
TakesRequest b new (Err e) = Takes b new (Err e) ⊎ TakesOther b new e

-- What a value gives that came where nothing was asked.
use Rattle.std.specs.Prelude.{Result, Ok, Err}
use Rattle.resp_value.specs.declared.value.PushInfo.{PushInfo}
use Rattle.resp_errors.specs.declared.redis_error.RedisError.{RedisError}
use Rattle.resp_errors.specs.declared.redis_error.RedisError.TheVariants.{Server}
use Rattle.resp_errors.specs.declared.server_error.ServerError.{ServerError}

-- a server's error that was read is an error, as one of reading
abbrev pub as_one_result : Result (Result PushInfo ServerError) RedisError → Result PushInfo RedisError
as_one_result (Ok (Ok message)) = Ok message
as_one_result (Ok (Err error)) = Err (Server error)
as_one_result (Err e) = Err e

-- Calls that fail only with `OutOfMemory`.
use Rattle.std.specs.Prelude.{◌≡◌, Result, IfErr}
use Rattle.resp_errors.specs.declared.redis_error.RedisError.{RedisError}
use Rattle.resp_errors.specs.declared.redis_error.RedisError.TheVariants.{OutOfMemory}

abbrev pub OnlyMemory : {A : Type 0} → Result A RedisError → Type 0
OnlyMemory r = IfErr r (λ e. e ≡ OutOfMemory)

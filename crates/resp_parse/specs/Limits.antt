-- The limits on what is read as a value.
use Rattle.std.specs.Prelude.{◌≡◌, ◌≤◌, ◌<◌, ◌-◌, ◌^◌, ℕ, codes, None}
use Rattle.resp_parse.specs.declared.limits.Limits.{Limits}
use Rattle.resp_errors.specs.declared.redis_error.RedisError.{RedisError}
use Rattle.resp_errors.specs.declared.redis_error.RedisError.TheVariants.{General}
use Rattle.resp_errors.specs.declared.kinds.ErrorKind.TheVariants.{InvalidClientConfig}

-- a limit on the levels of values inside values that may be chosen, from 1 to 1,000
pub record IsDepthLimit (d : ℕ) : Type 0 where
  pub some : 1 ≤ d
  pub most : d ≤ 1000

-- a limit on the bytes of a value that may be chosen, from 1 to 2^63 - 1
pub record IsSizeLimit (n : ℕ) : Type 0 where
  pub some : 1 ≤ n
  pub most : n < 2 ^ 63

-- limits that may be chosen
pub record AreLimits (l : Limits) : Type 0 where
  pub depth : IsDepthLimit l.depth
  pub size : IsSizeLimit l.bytes

-- up to d levels, the greatest limit on the size, and as many bytes of pushes
abbrev pub of_depth : ℕ → Limits
of_depth d = record { depth = d; bytes = 2 ^ 63 - 1; pushes = 2 ^ 63 - 1 }

-- the limits where none are chosen
abbrev pub usual : Limits
usual = of_depth 100

-- what another limit on the depth is refused with
abbrev pub depth_refused : RedisError
depth_refused = General InvalidClientConfig (codes "depth limit must be 1 to 1000") None

-- what another limit on the size is refused with
abbrev pub size_refused : RedisError
size_refused = General InvalidClientConfig (codes "size limit must be 1 to 2^63 - 1 bytes") None

-- why limits can't be chosen: the one on the depth, or else the one on the size
pub data RefusesLimits (l : Limits) (e : RedisError) : Type 0 where
  depth : (IsDepthLimit l.depth → ⊥) → e ≡ depth_refused → RefusesLimits l e
  size : IsDepthLimit l.depth → (IsSizeLimit l.bytes → ⊥) → e ≡ size_refused → RefusesLimits l e

use Rattle.std.proofs.Common.{rules}
use Rattle.resp_errors.proofs.redis_error.RedisError.kind.Goals as goal

pub returns-in-Io : goal.returns-in-Io
returns-in-Io c = search rules

use Rattle.std.proofs.Common.{rules}
use Rattle.resp_errors.proofs.redis_error.RedisError.first_server_error.Goals as goal

pub returns-in_ok-position-in-Pipeline : goal.returns-in_ok-position-in-Pipeline
returns-in_ok-position-in-Pipeline c = search rules

use Rattle.std.proofs.Common.{rules}
use Rattle.resp_errors.proofs.redis_error.RedisError.into_server_errors.Goals as goal

pub returns-in-Server-clause-listed : goal.returns-in-Server-clause-listed
returns-in-Server-clause-listed c = search rules

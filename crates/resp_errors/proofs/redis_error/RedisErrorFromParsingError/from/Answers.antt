use Rattle.std.proofs.Common.{rules}
use Rattle.resp_errors.proofs.redis_error.RedisErrorFromParsingError.from.Goals as goal

pub returns-in_default : goal.returns-in_default
returns-in_default c = search rules

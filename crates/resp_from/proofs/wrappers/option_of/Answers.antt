use Rattle.std.proofs.Common.{rules}
use Rattle.resp_from.proofs.wrappers.option_of.Goals as goal

pub returns-in_ok-from_redis_value-in_default : goal.returns-in_ok-from_redis_value-in_default
returns-in_ok-from_redis_value-in_default g c = search rules

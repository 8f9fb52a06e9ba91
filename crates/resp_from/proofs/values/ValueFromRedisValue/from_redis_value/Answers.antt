use Rattle.std.proofs.Common.{rules}
use Rattle.resp_from.proofs.values.ValueFromRedisValue.from_redis_value.Goals as goal

pub returns-clause-converts : goal.returns-clause-converts
returns-clause-converts c = search rules

use Rattle.std.proofs.Common.{rules}
use Rattle.resp_from.proofs.conversion.FromRedisValue.from_redis_value_ref.Goals as goal

pub returns-clause-converts : goal.returns-clause-converts
returns-clause-converts g c = search rules

pub returns-clause-errors : goal.returns-clause-errors
returns-clause-errors g c = search rules

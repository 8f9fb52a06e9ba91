use Rattle.std.proofs.Common.{rules}
use Rattle.resp_args.proofs.args.ToRedisArgs.to_redis_args.Goals as goal

pub returns-clause-given : goal.returns-clause-given
returns-clause-given g c = search rules

use Rattle.std.proofs.Common.{rules}
use Rattle.resp_args.proofs.impls.booleans.BoolToRedisArgs.write_redis_args.Goals as goal

pub returns-clause-written : goal.returns-clause-written
returns-clause-written g c = search rules

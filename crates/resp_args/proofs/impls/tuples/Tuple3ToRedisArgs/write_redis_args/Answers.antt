use Rattle.std.proofs.Common.{rules}
use Rattle.resp_args.proofs.impls.tuples.Tuple3ToRedisArgs.write_redis_args.Goals as goal

pub returns-clause-written : goal.returns-clause-written
returns-clause-written g c = search rules

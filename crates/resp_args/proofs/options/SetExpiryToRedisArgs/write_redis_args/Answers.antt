use Rattle.std.proofs.Common.{rules}
use Rattle.resp_args.proofs.options.SetExpiryToRedisArgs.write_redis_args.Goals as goal

pub returns-in-EX-clause-written : goal.returns-in-EX-clause-written
returns-in-EX-clause-written g c = search rules

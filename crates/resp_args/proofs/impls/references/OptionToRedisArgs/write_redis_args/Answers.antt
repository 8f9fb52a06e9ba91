use Rattle.std.proofs.Common.{rules}
use Rattle.resp_args.proofs.impls.references.OptionToRedisArgs.write_redis_args.Goals as goal

pub returns-in-None-clause-written : goal.returns-in-None-clause-written
returns-in-None-clause-written g c = search rules

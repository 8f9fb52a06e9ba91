use Rattle.std.proofs.Common.{rules}
use Rattle.resp_args.proofs.JoinedArgs.{writes_joined}
use Rattle.resp_args.proofs.joined.JoinedToRedisArgs.write_redis_args.Goals as goal

pub returns-clause-written : goal.returns-clause-written
returns-clause-written g c = search (rules, writes_joined)

use Rattle.std.proofs.Common.{rules}
use Rattle.resp_args.proofs.impls.integers.U8ToRedisArgs.write_args_from_slice.Goals as goal

pub returns-clause-written : goal.returns-clause-written
returns-clause-written g c = search rules

use Rattle.std.proofs.Common.{rules}
use Rattle.resp_args.proofs.write.VecVecU8RedisWrite.reserve_space_for_args.Goals as goal

pub returns-clause-same : goal.returns-clause-same
returns-clause-same g c = search rules

use Rattle.std.proofs.Common.{rules}
use Rattle.resp_args.proofs.write.RedisWrite.writer_for_next_arg.Goals as goal

pub returns-clause-opened : goal.returns-clause-opened
returns-clause-opened g c = search rules

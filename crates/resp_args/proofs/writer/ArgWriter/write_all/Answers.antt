use Rattle.std.proofs.Common.{rules}
use Rattle.resp_args.proofs.writer.ArgWriter.write_all.Goals as goal

pub returns-clause-ok : goal.returns-clause-ok
returns-clause-ok g c = search rules

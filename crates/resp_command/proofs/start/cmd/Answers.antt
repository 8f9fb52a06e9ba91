use Rattle.std.proofs.Common.{rules}
use Rattle.resp_command.proofs.start.cmd.Goals as goal

pub returns-clause-named : goal.returns-clause-named
returns-clause-named c = search rules

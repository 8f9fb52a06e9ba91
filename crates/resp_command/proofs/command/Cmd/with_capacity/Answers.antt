use Rattle.std.proofs.Common.{rules}
use Rattle.resp_command.proofs.command.Cmd.with_capacity.Goals as goal

pub returns-clause-new : goal.returns-clause-new
returns-clause-new c = search rules

use Rattle.std.proofs.Common.{rules}
use Rattle.resp_command.proofs.command.Cmd.arg.Goals as goal

pub returns-clause-given : goal.returns-clause-given
returns-clause-given g c = search rules

pub returns-clause-accepted : goal.returns-clause-accepted
returns-clause-accepted g c = search rules

use Rattle.std.proofs.Common.{rules}
use Rattle.resp_command.proofs.command.Cmd.iter.Goals as goal

pub returns-clause-starts : goal.returns-clause-starts
returns-clause-starts g c = search rules

use Rattle.std.proofs.Common.{rules}
use Rattle.resp_command.proofs.command.Cmd.set_no_response.Goals as goal

pub returns-clause-flag : goal.returns-clause-flag
returns-clause-flag c = search rules

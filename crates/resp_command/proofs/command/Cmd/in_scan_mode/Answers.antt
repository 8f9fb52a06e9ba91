use Rattle.std.proofs.Common.{rules}
use Rattle.resp_command.proofs.command.Cmd.in_scan_mode.Goals as goal

pub returns : goal.returns
returns c = search rules

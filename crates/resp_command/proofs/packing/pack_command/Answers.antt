use Rattle.std.proofs.Common.{rules}
use Rattle.resp_command.proofs.packing.pack_command.Goals as goal

pub returns-clause-packed : goal.returns-clause-packed
returns-clause-packed c = search rules

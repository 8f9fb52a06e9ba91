use Rattle.std.proofs.Common.{◌≡◌, All, false, length}
use Rattle.resp_command.specs.Command.{Command}
use Rattle.resp_cluster.proofs.packed_commands.read_commands.Given as goal

abbrev pub invariant-loop-read : goal.invariant-loop-read
invariant-loop-read l =
    (length l.commands.items ≡ l.read) × All (λ (c : Command). c.no_response ≡ false) l.commands.items

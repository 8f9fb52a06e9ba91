use Rattle.std.proofs.Common.{◌≡◌, take}
use Rattle.resp_cluster.specs.Gathered.{request_of}
use Rattle.resp_cluster.proofs.packed_commands.packed.Given as goal

abbrev pub invariant-loop-command : goal.invariant-loop-command
invariant-loop-command l = l.bytes.items ≡ request_of (take l.command-index l.commands)

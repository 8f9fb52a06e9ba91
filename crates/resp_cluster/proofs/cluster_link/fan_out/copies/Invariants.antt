use Rattle.std.proofs.Common.{◌≡◌, replicate}
use Rattle.resp_cluster.proofs.cluster_link.fan_out.copies.Given as goal

abbrev pub invariant-loop-made : goal.invariant-loop-made
invariant-loop-made l = l.commands.items ≡ replicate l.made l.command

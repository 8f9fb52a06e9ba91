use Rattle.std.proofs.Common.{length}
use Rattle.resp_cluster.proofs.Splitting.{Cut}
use Rattle.resp_cluster.proofs.split.entries.Given as goal

abbrev pub invariant-loop-left : goal.invariant-loop-left
invariant-loop-left l = Cut l.width l.args l.entries.items l.left

abbrev pub decreases-loop-left : goal.decreases-loop-left
decreases-loop-left l = length l.left

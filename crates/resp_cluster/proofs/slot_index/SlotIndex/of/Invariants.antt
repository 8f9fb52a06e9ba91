use Rattle.std.proofs.Common.{◌≤◌, drop, length}
use Rattle.resp_cluster.specs.SlotIndexes.{IsIndex}
use Rattle.resp_cluster.proofs.slot_index.SlotIndex.of.Given as goal

abbrev pub invariant-loop-place : goal.invariant-loop-place
invariant-loop-place l = (l.place ≤ length l.ranges) × IsIndex (drop l.place l.ranges) l.index

abbrev pub decreases-loop-place : goal.decreases-loop-place
decreases-loop-place l = l.place

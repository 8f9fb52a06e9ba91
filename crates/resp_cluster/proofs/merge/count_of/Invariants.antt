use Rattle.std.proofs.Common.{◌≡◌, length, take}
use Rattle.resp_cluster.specs.Gathered.{of_node}
use Rattle.resp_cluster.proofs.merge.count_of.Given as goal

abbrev pub invariant-loop-place : goal.invariant-loop-place
invariant-loop-place l = l.count ≡ length (of_node l.part (take l.place-index l.places) (take l.place-index l.places))

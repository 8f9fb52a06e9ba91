use Rattle.std.proofs.Common.{◌<◌, All, take}
use Rattle.resp_cluster.proofs.merge.are_below.Given as goal

abbrev pub invariant-loop-place : goal.invariant-loop-place
invariant-loop-place l = All (λ p. p < l.count) (take l.place-index l.places)

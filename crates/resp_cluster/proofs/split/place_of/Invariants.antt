use Rattle.std.proofs.Common.{◌≢◌, All, take}
use Rattle.resp_cluster.proofs.split.place_of.Given as goal

abbrev pub invariant-loop-place : goal.invariant-loop-place
invariant-loop-place l = All (λ other. other ≢ l.slot) (take l.place l.slots.items)

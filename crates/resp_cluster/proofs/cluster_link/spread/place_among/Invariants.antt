use Rattle.std.proofs.Common.{◌≢◌, All, take}
use Rattle.resp_cluster.proofs.cluster_link.spread.place_among.Given as goal

abbrev pub invariant-loop-place : goal.invariant-loop-place
invariant-loop-place l = All (λ other. other ≢ l.node) (take l.place l.nodes.items)

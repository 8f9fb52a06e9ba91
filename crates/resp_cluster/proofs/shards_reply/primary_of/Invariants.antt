use Rattle.std.proofs.Common.{◌≡◌, drop}
use Rattle.resp_cluster.specs.Shards.{primary_in}
use Rattle.resp_cluster.proofs.shards_reply.primary_of.Given as goal

abbrev pub invariant-loop-node : goal.invariant-loop-node
invariant-loop-node l = primary_in l.asked l.kind (drop l.node-index l.nodes) ≡ primary_in l.asked l.kind l.nodes

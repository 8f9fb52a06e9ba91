use Rattle.std.proofs.Common.{◌≡◌, drop}
use Rattle.resp_cluster.specs.Shards.{replicas_in}
use Rattle.resp_cluster.proofs.Entries.{after}
use Rattle.resp_cluster.proofs.shards_reply.replicas_of.Given as goal

abbrev pub invariant-loop-node : goal.invariant-loop-node
invariant-loop-node l = replicas_in l.asked l.kind l.nodes ≡ after l.addrs (replicas_in l.asked l.kind (drop l.node-index l.nodes))

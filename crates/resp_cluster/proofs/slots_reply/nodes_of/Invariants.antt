use Rattle.std.proofs.Common.{◌≡◌, drop}
use Rattle.resp_cluster.specs.Replies.{nodes_in}
use Rattle.resp_cluster.proofs.Entries.{after}
use Rattle.resp_cluster.proofs.slots_reply.nodes_of.Given as goal

abbrev pub invariant-loop-node : goal.invariant-loop-node
invariant-loop-node l = nodes_in l.asked l.nodes ≡ after l.addresses (nodes_in l.asked (drop l.node-index l.nodes))

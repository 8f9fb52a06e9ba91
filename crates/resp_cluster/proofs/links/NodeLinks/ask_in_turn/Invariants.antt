use Rattle.std.proofs.Common.{take, Err}
use Rattle.resp_cluster.specs.Cluster.{AsksInTurn}
use Rattle.resp_cluster.proofs.links.NodeLinks.ask_in_turn.Given as goal

abbrev pub invariant-loop-node : goal.invariant-loop-node
invariant-loop-node g l = AsksInTurn g.N.Link.ConnectionLike.connection (take l.node-index l.nodes) l.initial.self l.self
    (Err l.refused)

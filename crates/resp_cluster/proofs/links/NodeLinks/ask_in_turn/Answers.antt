use Rattle.std.proofs.Common.{arith, refl}
use Rattle.resp_cluster.specs.Cluster.{nobody}
use Rattle.resp_cluster.proofs.Asking.{all_asked, found_at, one_more_asked}
use Rattle.resp_cluster.proofs.links.NodeLinks.ask_in_turn.Goals as goal

pub loop-node-init : goal.loop-node-init
loop-node-init g c = nobody refl refl refl

pub returns-in-Ok : goal.returns-in-Ok
returns-in-Ok g c = found_at g.N.Link.ConnectionLike.connection c.args.nodes.now c.args.self.now c.loop-node.node-index
    c.loop-node.self c.loop-node.refused c.loop-node.invariant c.node-item.result (grind arith) c.node-item.is _ _
    (rw c.in-Ok.is at c.ask_map.ensures)

pub loop-node-preserved : goal.loop-node-preserved
loop-node-preserved g c = one_more_asked g.N.Link.ConnectionLike.connection c.args.nodes.now c.args.self.now
    c.loop-node.node-index c.loop-node.self c.loop-node.refused c.loop-node.invariant c.node-item.result (grind arith)
    c.node-item.is _ _ (rw c.in-Err.is at c.ask_map.ensures)

pub returns : goal.returns
returns g c = all_asked g.N.Link.ConnectionLike.connection c.args.nodes.now c.args.self.now
    c.loop-node.node-index c.loop-node.self c.loop-node.refused c.loop-node.invariant (grind arith)

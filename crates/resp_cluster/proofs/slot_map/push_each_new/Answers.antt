use Rattle.resp_cluster.proofs.MorePrimaries.{one_new_more}
use Rattle.resp_cluster.proofs.slot_map.push_each_new.Goals as goal

pub loop-node-preserved : goal.loop-node-preserved
loop-node-preserved c =
    one_new_more _ _ _ _ _ _ c.loop-node-test.true c.node-item.is c.loop-node.invariant c.in_ok-push_new.ensures

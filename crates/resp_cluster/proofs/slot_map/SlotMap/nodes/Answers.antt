use Rattle.std.proofs.Common.{arith, rules}
use Rattle.resp_cluster.proofs.MorePrimaries.{one_more_of_all}
use Rattle.resp_cluster.proofs.slot_map.SlotMap.nodes.Goals as goal

pub loop-range-preserved : goal.loop-range-preserved
loop-range-preserved c =
    let deref = c.deref-range-items.ensures.value in
    let view = c.self.view_is in
    one_more_of_all c.args.self.now c.loop-range.range-index c.range-item.result c.loop-range.nodes _
    (grind arith) (grind arith) c.loop-range.invariant (search rules)

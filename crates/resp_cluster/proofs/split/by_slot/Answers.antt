use Rattle.resp_cluster.proofs.Splitting.{next_by_slot}
use Rattle.resp_cluster.proofs.split.by_slot.Goals as goal

pub loop-entry-preserved : goal.loop-entry-preserved
loop-entry-preserved c =
    rw c.in_ok-push.ensures.items
    (next_by_slot _ _ _ _ _ _ _ _ c.in_ok-place_of.ensures c.loop-entry-test.true c.loop-entry.invariant c.slot_of.ensures)

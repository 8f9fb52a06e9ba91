use Rattle.resp_cluster.proofs.FanningOut.{one_copy_more}
use Rattle.resp_cluster.proofs.cluster_link.fan_out.copies.Goals as goal

pub loop-made-preserved : goal.loop-made-preserved
loop-made-preserved c =
    rw (c.in_ok-push.ensures.items, c.loop-made.invariant, c.in_ok-try_clone.ensures) (one_copy_more _ _)

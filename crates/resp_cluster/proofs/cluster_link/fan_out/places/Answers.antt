use Rattle.resp_cluster.proofs.FanningOut.{one_place_more}
use Rattle.resp_cluster.proofs.cluster_link.fan_out.places.Goals as goal

pub loop-place-preserved : goal.loop-place-preserved
loop-place-preserved c = rw (c.in_ok-push.ensures.items, c.loop-place.invariant) (one_place_more _)

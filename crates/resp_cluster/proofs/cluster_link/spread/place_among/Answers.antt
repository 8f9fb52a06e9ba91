use Rattle.std.proofs.Common.{arith}
use Rattle.resp_cluster.proofs.Spreading.{added}
use Rattle.resp_cluster.proofs.cluster_link.spread.place_among.Goals as goal

pub returns : goal.returns
returns c = added _ _ _ _ c.loop-place.place _ c.loop-place.invariant
    (omega (arith, c.loop-place-test.false, c.len-place-end.ensures)) c.in_ok-try_clone.ensures c.in_ok-push.ensures.items
    (omega (arith, c.len-place.ensures, c.args.nodes.now.ok.0))

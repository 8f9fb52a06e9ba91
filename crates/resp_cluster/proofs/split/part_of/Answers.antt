use Rattle.std.proofs.Common.{◌∙◌}
use Rattle.resp_cluster.proofs.Splitting.{part_grows, part_stays}
use Rattle.resp_cluster.proofs.split.part_of.Goals.{then-places-at+in_ok-push_all, else-places-at}
use Rattle.resp_cluster.proofs.split.part_of.Goals as goal

pub loop-at-preserved : goal.loop-at-preserved
loop-at-preserved c =
    elim c.if-places-at.branch [
      | then-places-at+in_ok-push_all w ↦
          part_grows _ _ _ _ _ _ _ c.requires c.loop-at-test.true c.loop-at.invariant _ w.if-places-at.true
          (w.command-is ∙ w.in_ok-push_all.ensures.added)
      | else-places-at w ↦
          part_stays _ _ _ _ _ _ _ c.requires c.loop-at-test.true c.loop-at.invariant w.if-places-at.false w.command-is
    ]

use Rattle.std.proofs.Common.{sym, ◌∙◌}
use Rattle.resp_cluster.proofs.Spreading.{stopped_short, went_given, went_refused}
use Rattle.resp_cluster.proofs.cluster_link.ClusterLink.follow_awaited.Goals as goal

pub returns-then-failed : goal.returns-then-failed
returns-then-failed g c =
    rw c.answer_of-answer.ensures (went_refused _ _ _ _ _ _ _ c.self.view_is _ _ _ _ _ _ c.requires c.in-Ok.ensures.went
    (sym c.has_failed-failed.ensures ∙ c.if-failed.true))

pub returns-else-failed : goal.returns-else-failed
returns-else-failed g c =
    rw c.answer_of-answer.ensures (went_given _ _ _ _ _ _ _ c.self.view_is _ _ _ _ _ _ c.requires c.in-Ok.ensures.went
    (sym c.has_failed-failed.ensures ∙ c.if-failed.false))

pub returns-in-Err-Unfollowed : goal.returns-in-Err-Unfollowed
returns-in-Err-Unfollowed g c =
    rw c.answer_of.ensures (stopped_short _ _ _ _ _ _ _ c.self.view_is _ _ _ _ _ _ c.requires
    (rw c.in-Err-Unfollowed.field-0-is at c.in-Err-Unfollowed.ensures.did_not))

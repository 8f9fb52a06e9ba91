use Rattle.std.proofs.Common.{sym, ◌∙◌}
use Rattle.resp_cluster.proofs.Spreading.{sent_given, sent_refused, sent_unreached}
use Rattle.resp_cluster.proofs.cluster_link.spread.ClusterLinkSendGroups.send_group.Goals as goal

pub returns-in-Err-clause-sent : goal.returns-in-Err-clause-sent
returns-in-Err-clause-sent g c =
    sent_unreached _ _ _ _ _ _ _ c.self.view_is _ _ _ _ _ (rw c.in-Err.is at c.reach.ensures)

pub returns-then-is_err-clause-sent : goal.returns-then-is_err-clause-sent
returns-then-is_err-clause-sent g c =
    sent_refused _ _ _ _ _ _ _ c.self.view_is _ _ _ _ _ _ (rw c.in-Ok.is at c.reach.ensures) c.send_request_over_last-replies.ensures.sent
    (sym c.is_err.ensures.value ∙ c.if-is_err.true)

pub returns-else-is_err-clause-sent : goal.returns-else-is_err-clause-sent
returns-else-is_err-clause-sent g c =
    sent_given _ _ _ _ _ _ _ c.self.view_is _ _ _ _ _ _ (rw c.in-Ok.is at c.reach.ensures) c.send_request_over_last-replies.ensures.sent
    (sym c.is_err.ensures.value ∙ c.if-is_err.false)

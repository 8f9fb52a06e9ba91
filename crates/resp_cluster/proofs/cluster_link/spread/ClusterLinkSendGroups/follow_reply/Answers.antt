use Rattle.resp_cluster.proofs.Spreading.{not_followed, of_awaited, stays_there}
use Rattle.resp_cluster.proofs.cluster_link.spread.ClusterLinkSendGroups.follow_reply.Goals as goal

pub returns-in_default : goal.returns-in_default
returns-in_default g c = not_followed _ _ _ _ _ _ _ c.self.view_is _ _ _

pub returns : goal.returns
returns g c = of_awaited _ _ _ _ _ _ _ (rw (← c.in-Ok.ensures) c.follow_awaited-2.ensures)

pub returns-then-not-reply_may_redirect : goal.returns-then-not-reply_may_redirect
returns-then-not-reply_may_redirect g c = stays_there _ _ _ _ _ (c.reply_may_redirect.ensures c.if-not-reply_may_redirect.true c.args.node.now)

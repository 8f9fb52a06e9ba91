use Rattle.resp_cluster.proofs.cluster_link.may_redirect.Goals as goal

pub returns-in-Ok : goal.returns-in-Ok
returns-in-Ok c = rw c.in-Ok.is c.reply_may_redirect.ensures

use Rattle.resp_cluster.proofs.Answering.{by_command}
use Rattle.resp_cluster.proofs.cluster_link.ClusterLink.req_one.Goals as goal

pub returns-clause-answered : goal.returns-clause-answered
returns-clause-answered g c =
    rw (c.in_ok-push.ensures.items, c.in_ok-replies.ensures.items)
    (by_command g.N.Link.ConnectionLike.connection g.met.N.Link.Unrouted.unrouted c.args.command.now c.in_ok-reply.reply c.args.self.now _
    c.requires (rw c.in_ok-reply.was at c.req_command.ensures))

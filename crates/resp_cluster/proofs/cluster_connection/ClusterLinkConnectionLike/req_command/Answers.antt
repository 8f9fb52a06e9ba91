use Rattle.resp_cluster.proofs.OverLinks.{routed_call}
use Rattle.resp_cluster.proofs.cluster_connection.ClusterLinkConnectionLike.req_command.Goals as goal

pub returns : goal.returns
returns g c = routed_call g.N.Link.ConnectionLike.connection g.met.N.Link.Unrouted.unrouted c.args.cmd.now c.args.self.now _
    c.req_routed.result c.req_routed.ensures

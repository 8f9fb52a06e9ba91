use Rattle.resp_cluster.proofs.Destinations.{learnt_then, kept_then}
use Rattle.resp_cluster.proofs.cluster_link.ClusterLink.refresh.Goals as goal

pub returns : goal.returns
returns g c = learnt_then g.N.Link.ConnectionLike.connection c.self.inside.links c.self.inside.map c.self.inside.budget
    c.self.inside.reads c.self.inside.stale c.args.self.now c.self.view_is c.ask_primaries.new.self _
    (rw c.in-Ok.is at c.ask_primaries.ensures)

pub returns-in_default : goal.returns-in_default
returns-in_default g c = kept_then g.N.Link.ConnectionLike.connection c.self.inside.links c.self.inside.map
    c.self.inside.budget c.self.inside.reads c.self.inside.stale c.args.self.now c.self.view_is c.ask_primaries.new.self _
    (rw c.in_default.is at c.ask_primaries.ensures)

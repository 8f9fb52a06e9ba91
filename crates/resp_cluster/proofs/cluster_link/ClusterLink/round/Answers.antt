use Rattle.std.proofs.Common.{rules}
use Rattle.resp_cluster.proofs.Destinations.{round_ends}
use Rattle.resp_cluster.proofs.cluster_link.ClusterLink.round.Goals as goal

pub returns : goal.returns
returns g c = round_ends g.N.Link.ConnectionLike.connection c.args.command.now c.args.route.now
    c.self.inside.links c.self.inside.map c.self.inside.budget c.self.inside.reads
    c.self.inside.stale c.args.self.now c.self.view_is c.in_ok-first.first (search rules) c.follow-outcome.new.nodes c.follow-outcome.new.map c.ended-sent.result.0
    c.follow-outcome.result c.ended-sent.result.1 c.ended-sent.ensures c.follow-outcome.ensures.followed
    c.follow-outcome.ensures.not_followed

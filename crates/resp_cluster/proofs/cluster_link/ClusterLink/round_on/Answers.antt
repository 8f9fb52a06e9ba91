use Rattle.std.proofs.Common.{rules, refl}
use Rattle.resp_cluster.specs.declared.links.Sent.TheVariants.{Answered}
use Rattle.resp_cluster.proofs.Rounds.{round_goes_on, round_unlearnt}
use Rattle.resp_cluster.proofs.cluster_link.ClusterLink.round_on.Goals as goal

pub returns-in_default : goal.returns-in_default
returns-in_default g c = λ node last. round_unlearnt g.N.Link.ConnectionLike.connection c.args.command.now
    c.self.inside.links c.self.inside.map c.self.inside.budget c.self.inside.reads
    c.self.inside.stale c.args.self.now c.self.view_is node (Answered c.args.answer) c.self.inside.links refl

pub returns : goal.returns
returns g c = λ node last. round_goes_on g.N.Link.ConnectionLike.connection c.args.command.now
    c.self.inside.links c.self.inside.map c.self.inside.budget c.self.inside.reads
    c.self.inside.stale c.args.self.now c.self.view_is node (Answered c.args.answer) c.in-Some.node (search rules) (rw (← c.self.view_is) at last)
    c.go_on-outcome.new.nodes c.go_on-outcome.new.map c.go_on-outcome.result c.ended-sent.result.0
    c.ended-sent.result.1 c.ended-sent.ensures c.go_on-outcome.ensures.went c.go_on-outcome.ensures.did_not

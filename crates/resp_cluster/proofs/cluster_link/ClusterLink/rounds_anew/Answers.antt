use Rattle.std.proofs.Common.{sym, ◌∙◌}
use Rattle.resp_cluster.specs.Cluster.{once, again}
use Rattle.resp_cluster.proofs.cluster_link.ClusterLink.rounds_anew.Goals as goal

pub returns-in-Some : goal.returns-in-Some
returns-in-Some g c = once c.round.result c.round.ensures (sym c.reached.ensures ∙ c.in-Some.is)

pub returns-in-None : goal.returns-in-None
returns-in-None g c = again c.round.result c.round.new.self c.round.ensures (sym c.reached.ensures ∙ c.in-None.is)
    c.once_more.ensures

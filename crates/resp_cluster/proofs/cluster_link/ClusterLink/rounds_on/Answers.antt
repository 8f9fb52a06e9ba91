use Rattle.std.proofs.Common.{Ok, refl, sym, ◌∙◌}
use Rattle.resp_cluster.specs.Cluster.{again, once}
use Rattle.resp_cluster.proofs.cluster_link.ClusterLink.rounds_on.Goals as goal

pub returns-in-Some : goal.returns-in-Some
returns-in-Some g c = λ node is_last. once (Ok c.round_on.result) (c.round_on.result, (refl, c.round_on.ensures node is_last))
    (sym c.reached.ensures ∙ c.in-Some.is)

pub returns-in-None : goal.returns-in-None
returns-in-None g c = λ node is_last. again (Ok c.round_on.result) c.round_on.new.self
    (c.round_on.result, (refl, c.round_on.ensures node is_last)) (sym c.reached.ensures ∙ c.in-None.is) c.once_more.ensures

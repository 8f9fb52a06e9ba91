use Rattle.std.proofs.Common.{rules}
use Rattle.std.proofs.lemmas.Result.{err_from_is_err_and}
use Rattle.resp_cluster.specs.Spread.{cannot, nowhere}
use Rattle.resp_cluster.proofs.cluster_link.ClusterLink.destination.Goals as goal

pub returns-in_err-route-clause-none : goal.returns-in_err-route-clause-none
returns-in_err-route-clause-none g c =
    let p = err_from_is_err_and c.from_residual.result c.from_residual.ensures.1 in
    rw (p.1, p.2) (λ differ. cannot (c.in_err-route.ensures.refused differ))

pub returns-in-None-clause-none : goal.returns-in-None-clause-none
returns-in-None-clause-none g c = λ differ. nowhere c.in_ok-route.route c.in_ok-route.ensures.goes (search rules) c.no_node.ensures

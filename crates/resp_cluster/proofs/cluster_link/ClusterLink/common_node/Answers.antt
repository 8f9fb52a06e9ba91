use Rattle.std.proofs.Common.{rules, refl}
use Rattle.std.proofs.lemmas.Result.{err_from_is_err_and}
use Rattle.resp_cluster.specs.Transactions.{cannot, found, no_memory, nowhere}
use Rattle.resp_cluster.proofs.cluster_link.ClusterLink.common_node.Goals as goal

pub returns-in_err-route : goal.returns-in_err-route
returns-in_err-route g c =
    let p = err_from_is_err_and c.from_residual.result c.from_residual.ensures.1 in
    cannot p.0 (rw p.2 c.in_err-route.ensures.refused) refl p.1

pub returns-in_default : goal.returns-in_default
returns-in_default g c =
    nowhere c.in_ok-route.route c.in_ok-route.ensures.together c.make_ready.ensures (search rules) (search rules)

pub returns-in_err-node : goal.returns-in_err-node
returns-in_err-node g c = no_memory c.in_ok-route.route c.in_ok-route.ensures.together c.make_ready.ensures (search rules)

pub returns : goal.returns
returns g c =
    found c.in_ok-route.route _ c.in_ok-route.ensures.together c.make_ready.ensures (search rules) refl

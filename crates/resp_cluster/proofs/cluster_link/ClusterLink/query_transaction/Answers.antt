use Rattle.std.proofs.Common.{◌∙◌, ap, refl, Err}
use Rattle.std.proofs.lemmas.Result.{err_from_is_err_and}
use Rattle.resp_cluster.specs.Transactions.{sent, unpacked, unsent}
use Rattle.resp_cluster.proofs.cluster_link.ClusterLink.query_transaction.Goals as goal

pub returns-in_err-request : goal.returns-in_err-request
returns-in_err-request g c =
    let p = err_from_is_err_and c.from_residual.result c.from_residual.ensures.1 in
    unpacked refl (p.1 ∙ ap Err (p.2 ∙ c.in_err-request.ensures.memory))

pub returns-in_err-node : goal.returns-in_err-node
returns-in_err-node g c =
    let p = err_from_is_err_and c.from_residual-in_err-node.result c.from_residual-in_err-node.ensures.1 in
    unsent p.0 (rw (p.2, ← c.commands.ensures) (rw c.in_err-node.was at c.common_node.ensures)) p.1

pub returns : goal.returns
returns g c =
    sent c.common_node.new.self c.in_ok-node.node (rw (← c.commands.ensures) (rw c.in_ok-node.was at c.common_node.ensures))
    c.send_whole.ensures

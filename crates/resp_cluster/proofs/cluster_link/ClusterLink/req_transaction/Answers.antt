use Rattle.std.proofs.Common.{ap, false, sym, refl, ◌∙◌}
use Rattle.std.proofs.lemmas.Result.{err_from_is_err_and}
use Rattle.std.specs.List.{list_any}
use Rattle.resp_cluster.specs.Transactions.{is_server_error, sent, unsent}
use Rattle.resp_cluster.proofs.Transacting.{as_before, then_stale}
use Rattle.resp_cluster.proofs.cluster_link.ClusterLink.req_transaction.Goals as goal
use Rattle.resp_cluster.proofs.cluster_link.ClusterLink.req_transaction.Goals.{then-has_server_error, else-has_server_error}

pub returns-in_err-node-clause-whole : goal.returns-in_err-node-clause-whole
returns-in_err-node-clause-whole g c =
    let p = err_from_is_err_and c.from_residual.result c.from_residual.ensures.1 in
    unsent _ p.0 c.in-Some.ensures.some (rw p.2 (rw c.in_err-node.was at c.common_node.ensures)) p.1

pub returns-in_err-replies-clause-whole : goal.returns-in_err-replies-clause-whole
returns-in_err-replies-clause-whole g c =
    let p = err_from_is_err_and c.from_residual-in_err-replies.result c.from_residual-in_err-replies.ensures.1 in
    rw (p.1, p.2) (sent _ _ _ _ c.in-Some.ensures.some (rw c.in_ok-node.was at c.common_node.ensures) c.in_err-replies.ensures.sent
    (as_before _ _ false refl refl))

pub returns-clause-whole : goal.returns-clause-whole
returns-clause-whole g c =
    let held = sym (ap (list_any is_server_error) c.as_slice.ensures.value) ∙ sym c.has_server_error.ensures in
    sent _ _ _ _ c.in-Some.ensures.some (rw c.in_ok-node.was at c.common_node.ensures) c.in_ok-replies.ensures.sent
    (elim c.if-has_server_error.branch [
      | then-has_server_error w ↦ then_stale _ _ _ _ _ _ _ _ c.self.view_is (held ∙ w.if-has_server_error.true) w.self-is
      | else-has_server_error w ↦ as_before _ _ _ (held ∙ w.if-has_server_error.false) w.self-is
    ])

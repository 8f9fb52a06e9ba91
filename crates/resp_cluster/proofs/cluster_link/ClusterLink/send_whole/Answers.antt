use Rattle.std.proofs.Common.{refl, sym, ◌∙◌}
use Rattle.std.proofs.lemmas.Result.{err_from_is_err_and}
use Rattle.resp_cluster.specs.Transactions.{refused}
use Rattle.resp_cluster.proofs.Transacting.{made_error, made_value}
use Rattle.resp_cluster.proofs.cluster_link.ClusterLink.send_whole.Goals as goal

pub returns-in_err-replies : goal.returns-in_err-replies
returns-in_err-replies g c =
    let p = err_from_is_err_and c.from_residual.result c.from_residual.ensures.1 in
    rw (p.1, p.2)
    (refused _ (rw (c.in_err-replies.was, c.requires, c.replies_needed.ensures) at c.send_group.ensures.sent) refl)

pub returns-then-is_err : goal.returns-then-is_err
returns-then-is_err g c =
    made_error _ _ _ _ _ _ _ _ _ _ _ c.self.view_is _ _
    (rw (c.in_ok-replies.was, c.requires, c.replies_needed.ensures) at c.send_group.ensures.sent) c.outcome-answer.ensures
    (sym c.is_err.ensures.value ∙ c.if-is_err.true)

pub returns-else-is_err : goal.returns-else-is_err
returns-else-is_err g c =
    made_value _ _ _ _ _ _ _ _
    (rw (c.in_ok-replies.was, c.requires, c.replies_needed.ensures) at c.send_group.ensures.sent) c.outcome-answer.ensures
    (sym c.is_err.ensures.value ∙ c.if-is_err.false)

use Rattle.std.proofs.Common.{sym}
use Rattle.std.proofs.lemmas.Result.{err_from_is_err_and}
use Rattle.resp_cluster.specs.Together.{cannot}
use Rattle.resp_cluster.proofs.Joining.{next_apart, next_together}
use Rattle.resp_cluster.proofs.cluster_link.transaction.common_route.Goals as goal

pub returns-in_err-route-clause-refused : goal.returns-in_err-route-clause-refused
returns-in_err-route-clause-refused c =
    let p = err_from_is_err_and c.from_residual.result c.from_residual.ensures.1 in
    rw (p.1, p.2)
    (λ differ. cannot _ (_, c.loop-command-test.true, sym c.command-item.is) (c.in_err-route.ensures.refused differ))

pub returns-in_err-common-clause-refused : goal.returns-in_err-common-clause-refused
returns-in_err-common-clause-refused c =
    let p = err_from_is_err_and c.from_residual-in_err-common.result c.from_residual-in_err-common.ensures.1 in
    rw (p.1, p.2)
    (λ differ.
    let h = c.in_err-common.ensures.apart differ in
    next_apart _ _ _ _ _ c.loop-command.invariant c.loop-command-test.true c.command-item.is c.in_ok-route.ensures.goes h.0 _ h.1)

pub loop-command-preserved : goal.loop-command-preserved
loop-command-preserved c =
    next_together _ _ _ _ _ c.loop-command.invariant c.loop-command-test.true c.command-item.is c.in_ok-route.ensures.goes _
    c.in_ok-common.ensures.joined

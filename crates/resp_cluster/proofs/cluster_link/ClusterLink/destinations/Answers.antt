use Rattle.std.proofs.Common.{sym}
use Rattle.std.proofs.lemmas.Result.{err_from_is_err_and}
use Rattle.resp_cluster.proofs.Spreading.{next_destination}
use Rattle.resp_cluster.proofs.cluster_link.ClusterLink.destinations.Goals as goal

pub loop-command-preserved : goal.loop-command-preserved
loop-command-preserved g c =
    rw c.in_ok-push.ensures.items
    (next_destination _ _ _ c.command-item.result _ _ _ _ _ c.loop-command.invariant c.loop-command-test.true c.command-item.is
    c.in_ok-node.ensures.found c.in_ok-place_among.ensures)

pub returns-in_err-node-clause-none : goal.returns-in_err-node-clause-none
returns-in_err-node-clause-none g c =
    let p = err_from_is_err_and c.from_residual-in_err-node.result c.from_residual-in_err-node.ensures.1 in
    rw (p.1, p.2) (λ differ. record {
      command = c.command-item.result;
      among = (_, c.loop-command-test.true, sym c.command-item.is);
      none = c.in_err-node.ensures.none differ;
    })

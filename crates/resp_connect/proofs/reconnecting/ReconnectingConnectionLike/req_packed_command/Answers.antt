use Rattle.std.proofs.Common.{refl}
use Rattle.std.proofs.lemmas.Result.{err_from_is_err_and}
use Rattle.resp_connect.proofs.Replaced.{called, unreached}
use Rattle.resp_connect.proofs.reconnecting.ReconnectingConnectionLike.req_packed_command.Goals as goal

pub returns-in_err-reach : goal.returns-in_err-reach
returns-in_err-reach g c =
    let p = err_from_is_err_and c.from_residual.result c.from_residual.ensures.1 in
    rw (p.1, p.2) (unreached _ _ _ _ _ _ _ _ _ _ (rw c.in_err-reach.was at c.reach.ensures) refl)

pub returns : goal.returns
returns g c =
    called _ _ _ _ _ _ _ g.met.D.Link.Unrouted.unrouted _ c.in-Some.link _ (rw (c.in_ok-reach.was, c.in-Some.is) at c.reach.ensures) c.req_packed_command.ensures

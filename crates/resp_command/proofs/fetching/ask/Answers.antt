use Rattle.std.proofs.lemmas.Result.{err_from_is_err_and}
use Rattle.resp_command.proofs.ScanCalls.{later_failed, later_read, read_refused}
use Rattle.resp_command.proofs.fetching.ask.Goals as goal

pub returns-in_err-reply : goal.returns-in_err-reply
returns-in_err-reply g c =
    let p = err_from_is_err_and c.from_residual.result c.from_residual.ensures.1 in
    rw (p.1, p.2) (later_failed _ _ _ _ _ _ _ _ c.in_err-reply.was c.send.ensures)

pub returns-in_err-of_reply : goal.returns-in_err-of_reply
returns-in_err-of_reply g c =
    let p = err_from_is_err_and c.from_residual-in_err-of_reply.result c.from_residual-in_err-of_reply.ensures.1 in
    rw (p.1, p.2) (later_read _ _ _ _ _ _ _ _ _ c.in_ok-reply.was c.send.ensures
    (read_refused _ _ c.in_err-of_reply.ensures.decides))

pub returns : goal.returns
returns g c = later_read _ _ _ _ _ _ _ _ _ c.in_ok-reply.was c.send.ensures (c.in_ok-of_reply.ensures.decides, λ e. cc)

use Rattle.std.proofs.lemmas.Result.{err_from_is_err_and}
use Rattle.resp_command.proofs.ScanCalls.{call_refused, first_failed, first_read}
use Rattle.resp_command.proofs.progress.first_batch.Goals as goal

pub returns-in_err-reply : goal.returns-in_err-reply
returns-in_err-reply g c =
    let p = err_from_is_err_and c.from_residual.result c.from_residual.ensures.1 in
    rw (p.1, p.2) (first_failed _ _ _ _ _ _ _ c.in_err-reply.was c.req_command.ensures)

pub returns-in_err-of_first_page : goal.returns-in_err-of_first_page
returns-in_err-of_first_page g c =
    let p = err_from_is_err_and c.from_residual-in_err-of_first_page.result
    c.from_residual-in_err-of_first_page.ensures.1 in
    rw (p.1, p.2) (first_read _ _ _ _ _ _ _ _ c.in_ok-reply.was c.req_command.ensures
    (call_refused _ _ c.in_err-of_first_page.ensures.converts))

pub returns : goal.returns
returns g c = first_read _ _ _ _ _ _ _ _ c.in_ok-reply.was c.req_command.ensures c.in_ok-of_first_page.ensures.converts

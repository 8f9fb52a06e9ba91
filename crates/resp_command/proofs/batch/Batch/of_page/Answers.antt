use Rattle.std.proofs.lemmas.Result.{err_from_is_err_and}
use Rattle.resp_command.proofs.ScanCalls.{no_page_batch}
use Rattle.resp_command.proofs.batch.Batch.of_page.Goals as goal

pub returns-in_err-page : goal.returns-in_err-page
returns-in_err-page g c =
    let p = err_from_is_err_and c.from_residual.result c.from_residual.ensures.1 in
    rw (p.1, p.2) (record { converts = no_page_batch _ _ _ _ c.in_err-page.ensures.decides })

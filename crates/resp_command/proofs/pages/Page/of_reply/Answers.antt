use Rattle.std.proofs.lemmas.Result.{err_from_is_err_and}
use Rattle.resp_command.proofs.PageReading.{no_page, page_read}
use Rattle.resp_command.proofs.pages.Page.of_reply.Goals as goal

pub returns-in_err-cursor : goal.returns-in_err-cursor
returns-in_err-cursor g c =
    let p = err_from_is_err_and c.from_residual.result c.from_residual.ensures.1 in
    rw (p.1, p.2)
    (record { decides = (c.in_err-cursor.ensures.decides.0, no_page _ _ _ c.in_err-cursor.ensures.decides.1) })

pub returns : goal.returns
returns g c = record {
  decides = page_read _ _ _ _ _ _ _ c.in_ok-cursor.ensures.decides c.results_of.ensures.answers
      c.ok-results.ensures.value;
}

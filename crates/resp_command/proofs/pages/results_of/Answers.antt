use Rattle.std.proofs.lemmas.Result.{err_from_is_err_and}
use Rattle.resp_command.proofs.PageReading.{only_memory}
use Rattle.resp_command.proofs.pages.results_of.Goals as goal

pub returns-in_err-items : goal.returns-in_err-items
returns-in_err-items g c =
    let p = err_from_is_err_and c.from_residual.result c.from_residual.ensures.1 in
    rw (p.1, p.2) (record { answers = only_memory c.args.list c.requires _ c.in_err-items.ensures.converts })

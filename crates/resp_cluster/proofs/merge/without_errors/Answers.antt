use Rattle.std.proofs.Common.{◌∙◌, arith}
use Rattle.std.proofs.lemmas.Result.{err_from_is_err_and}
use Rattle.resp_cluster.proofs.Merging.{is_first, none_left}
use Rattle.resp_cluster.proofs.merge.without_errors.Goals as goal

pub returns-in_err-extract_error-clause-refused : goal.returns-in_err-extract_error-clause-refused
returns-in_err-extract_error-clause-refused c =
    let p = err_from_is_err_and c.from_residual-in_err-extract_error.result c.from_residual-in_err-extract_error.ensures.1 in
    rw (p.1, p.2) (λ differ. is_first _ _ _ c.in-Some.reply c.in-Some.ensures.steps.0 c.loop-reply.invariant.1 _ _ c.extract_error.ensures c.in_err-extract_error.was)

pub returns-clause-none : goal.returns-clause-none
returns-clause-none c = c.loop-reply.invariant.1
    ∙ none_left _ (omega (arith, c.in-None.ensures.steps.0, c.loop-reply.reply-iterator.rest.ok.0))

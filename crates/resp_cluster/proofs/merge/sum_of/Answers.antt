use Rattle.std.proofs.Common.{FitsSigned, sym, ◌∙◌, ap, refl, subst, arith, w64, to_z-of_z, take_all}
use Rattle.std.proofs.lemmas.Result.{err_from_is_err_and}
use Rattle.resp_value.specs.declared.value.Value.{Int}
use Rattle.resp_cluster.proofs.Merging.{not_number, one_number_more, too_large}
use Rattle.resp_cluster.proofs.merge.sum_of.Goals as goal

pub loop-reply-preserved : goal.loop-reply-preserved
loop-reply-preserved c =
    let fits : FitsSigned w64 c.in-Some.more = rw c.in-Some.ensures.1 c.in-Some.ensures.0 in
    one_number_more _ _ c.reply-item.result _ c.loop-reply-test.true c.reply-item.is c.loop-reply.invariant c.in_ok-number_of.field-0
    c.in_ok-number_of.ensures.is _ (to_z-of_z {w = w64} fits ∙ c.in-Some.ensures.1
    ∙ rw (to_z-of_z {w = w64} c.in_ok-number_of.ensures.fits) refl) (subst (FitsSigned w64) (sym (to_z-of_z {w = w64} fits)) fits)

pub returns-in_err-number_of-clause-refused : goal.returns-in_err-number_of-clause-refused
returns-in_err-number_of-clause-refused c =
    let p = err_from_is_err_and c.from_residual.result c.from_residual.ensures.1 in
    rw (p.1, p.2) (record {
      none = not_number _ _ c.reply-item.result _ c.loop-reply-test.true c.reply-item.is c.loop-reply.invariant c.in_err-number_of.ensures.refused.1;
      says = c.in_err-number_of.ensures.refused.0;
    })

pub returns-in-None-clause-refused : goal.returns-in-None-clause-refused
returns-in-None-clause-refused c = record {
  none = too_large _ _ c.reply-item.result _ c.loop-reply-test.true c.reply-item.is c.loop-reply.invariant c.in_ok-number_of.field-0
      c.in_ok-number_of.ensures.is (rw (to_z-of_z {w = w64} c.in_ok-number_of.ensures.fits) at c.in-None.ensures);
  says = c.unexpected.ensures;
}

pub returns-clause-merged : goal.returns-clause-merged
returns-clause-merged c =
    let so_far = c.loop-reply.invariant in
    record {
      numbers = so_far.numbers;
      all = sym (take_all c.loop-reply.reply-index c.args.replies.now (omega (arith, c.loop-reply-test.false))) ∙ so_far.all;
      fits = so_far.fits;
      answered = ap Int so_far.sum_is;
    }

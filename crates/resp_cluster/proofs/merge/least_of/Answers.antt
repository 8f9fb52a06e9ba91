use Rattle.std.proofs.Common.{◌≡◌, w64, to_z, to_z-of_z}
use Rattle.std.proofs.lemmas.Result.{err_from_is_err_and}
use Rattle.std.specs.Int.{int_min}
use Rattle.resp_cluster.proofs.Merging.{next_least, other_differs}
use Rattle.resp_cluster.proofs.merge.least_of.Goals as goal

pub returns-in_err-number_of-clause-refused : goal.returns-in_err-number_of-clause-refused
returns-in_err-number_of-clause-refused c =
    let p = err_from_is_err_and c.from_residual-in_err-number_of.result c.from_residual-in_err-number_of.ensures.1 in
    rw (p.1, p.2) (record {
      none = other_differs _ _ _ c.reply-item.result _ c.loop-reply-test.true c.reply-item.is c.loop-reply.invariant
          c.in_err-number_of.ensures.refused.1;
      says = c.in_err-number_of.ensures.refused.0;
    })

pub loop-reply-preserved : goal.loop-reply-preserved
loop-reply-preserved c =
    let number_is = to_z-of_z {w = w64} c.in_ok-number_of.ensures.fits in
    let is : c.min-least.result ≡ int_min (to_z w64 c.loop-reply.least-bits) c.in_ok-number_of.field-0 =
    cc (c.min-least.ensures.value, number_is) in
    next_least _ _ _ c.reply-item.result _ c.loop-reply-test.true c.reply-item.is c.loop-reply.invariant c.in_ok-number_of.field-0
    c.in_ok-number_of.ensures.is c.in_ok-number_of.ensures.fits _ is

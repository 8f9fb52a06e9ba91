use Rattle.std.proofs.Common.{◌≡◌, ◌∙◌, length, rules, sym}
use Rattle.std.proofs.lemmas.Result.{err_from_is_err_and}
use Rattle.resp_cluster.proofs.Conjunctions.{first_differs, next_row, row_differs, row_uneven}
use Rattle.resp_cluster.proofs.truths.logical_and.Goals as goal

pub returns-in_err-all-clause-refused : goal.returns-in_err-all-clause-refused
returns-in_err-all-clause-refused c =
    let p = err_from_is_err_and c.from_residual.result c.from_residual.ensures.1 in
    rw (p.1, p.2) (λ differ. record {
      none = first_differs _ c.in-Some.others.now c.in-Some.first.now (search rules) (c.in_err-all.ensures.refused differ).1;
      says = (c.in_err-all.ensures.refused differ).0;
    })

pub returns-in_err-truths-clause-refused : goal.returns-in_err-truths-clause-refused
returns-in_err-truths-clause-refused c =
    let p = err_from_is_err_and c.from_residual-in_err-truths.result c.from_residual-in_err-truths.ensures.1 in
    rw (p.1, p.2) (λ differ. record {
      none = row_differs _ _ _ c.reply-item.result _ c.loop-reply-test.true c.reply-item.is c.loop-reply.invariant
          (c.in_err-truths.ensures.refused differ).1;
      says = (c.in_err-truths.ensures.refused differ).0;
    })

pub returns-then-len-clause-refused : goal.returns-then-len-clause-refused
returns-then-len-clause-refused c = λ differ.
    let row : c.len.result ≡ length c.in_ok-truths.truths.items = search rules in
    let all : c.len-in-loop-reply.result ≡ length c.loop-reply.all.items = search rules in
    record {
      none = row_uneven _ _ _ c.reply-item.result _ c.loop-reply-test.true c.reply-item.is c.loop-reply.invariant _
          c.in_ok-truths.ensures.are (λ even. c.if-len.true (row ∙ even ∙ sym all));
      says = c.unexpected-then-len.ensures;
    }

pub loop-reply-preserved : goal.loop-reply-preserved
loop-reply-preserved c =
    let row : c.len.result ≡ length c.in_ok-truths.truths.items = search rules in
    let all : c.len-in-loop-reply.result ≡ length c.loop-reply.all.items = search rules in
    next_row _ _ _ c.reply-item.result _ c.loop-reply-test.true c.reply-item.is c.loop-reply.invariant _
    c.in_ok-truths.ensures.are (sym row ∙ c.if-len.false ∙ all) _ (search rules)

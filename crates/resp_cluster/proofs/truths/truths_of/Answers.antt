use Rattle.std.proofs.Common.{ap, map, sym, ◌∙◌, arith, take_all}
use Rattle.std.proofs.lemmas.Result.{err_from_is_err_and}
use Rattle.resp_value.specs.declared.value.Value.{Array}
use Rattle.resp_cluster.specs.Merges.{bit}
use Rattle.resp_cluster.proofs.Conjunctions.{item_differs}
use Rattle.resp_cluster.proofs.Merging.{one_more}
use Rattle.resp_cluster.proofs.truths.truths_of.Goals as goal

pub returns-in_err-truth_of-clause-refused : goal.returns-in_err-truth_of-clause-refused
returns-in_err-truth_of-clause-refused c =
    let p = err_from_is_err_and c.from_residual-in_err-truth_of.result c.from_residual-in_err-truth_of.ensures.1 in
    rw (p.1, p.2) (λ differ. (
      c.in_err-truth_of.ensures.refused.0,
      item_differs _ _ c.item-item.result c.loop-item-test.true c.item-item.is _ c.loop-item.invariant
          c.in_err-truth_of.ensures.refused.1 _ (c.in-Array.is ∙ ap Array (sym c.as_slice-item-items.ensures)),
    ))

pub loop-item-preserved : goal.loop-item-preserved
loop-item-preserved c = one_more bit _ _ c.item-item.result c.loop-item-test.true c.item-item.is _ c.loop-item.invariant
    c.in_ok-truth_of.field-0 c.in_ok-truth_of.ensures.is ∙ ap (map bit) (sym c.in_ok-push.ensures.items)

pub returns-clause-are : goal.returns-clause-are
returns-clause-are c = c.in-Array.is ∙ ap Array (sym c.as_slice-item-items.ensures
    ∙ sym (take_all c.loop-item.item-index c.as_slice-item-items.result.now (omega (arith, c.loop-item-test.false)))
    ∙ c.loop-item.invariant)

use Rattle.std.proofs.Common.{◌≡◌, ◌&&◌, false, get_or, ap, sym, ◌∙◌, arith}
use Rattle.resp_cluster.proofs.Conjunctions.{next_both}
use Rattle.resp_cluster.proofs.truths.both.Goals.{then-one-place, else-one-place}
use Rattle.resp_cluster.proofs.truths.both.Goals as goal

pub loop-place-preserved : goal.loop-place-preserved
loop-place-preserved c =
    let place = c.loop-place.place in
    let second = get_or c.args.other.now place false in
    let is : c.if-one-place.push ≡ (get_or c.args.one.now place false && second) = elim c.if-one-place.branch [
      | then-one-place w ↦ w.push-is ∙ ap (λ first. first && second) (sym w.if-one-place.true)
      | else-one-place w ↦ w.push-is ∙ w.if-one-place.false ∙ ap (λ first. first && second) (sym w.if-one-place.false)
    ] in
    c.in_ok-push.ensures.items ∙ next_both c.args.one.now c.args.other.now c.loop-place.truths.items place _
    (omega (arith, c.loop-place-test.true)) c.requires c.loop-place.invariant is

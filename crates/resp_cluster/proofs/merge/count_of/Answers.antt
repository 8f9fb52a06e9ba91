use Rattle.std.proofs.Common.{◌+◌, ◌∷◌, [], ap, sym, refl, ◌∙◌, get_or, length-append, arith}
use Rattle.std.proofs.lemmas.List.{get_or_default}
use Rattle.resp_cluster.proofs.Gathers.{at_most, next_elsewhere, next_here}
use Rattle.resp_cluster.proofs.merge.count_of.Goals.{then-place-part, else-place-part}
use Rattle.resp_cluster.proofs.merge.count_of.Goals as goal

pub overflow_add-count : goal.overflow_add-count
overflow_add-count c =
    let most = at_most c.args.part c.args.places.now c.args.places.now c.loop-place.place-index in
    omega (arith, most, c.loop-place.invariant)

pub loop-place-preserved : goal.loop-place-preserved
loop-place-preserved c =
    let places = c.args.places.now in
    let at = c.loop-place.place-index in
    elim c.if-place-part.branch [
      | then-place-part w ↦
          rw (
            w.count-is,
            next_here c.args.part places places at (get_or places at 0) refl c.loop-place-test.true
                (get_or_default places at 0 (get_or places at 0) c.loop-place-test.true) w.if-place-part.true,
          )
          (ap (λ n. n + 1) c.loop-place.invariant ∙ sym (length-append _ (get_or places at 0 ∷ [])))
      | else-place-part w ↦
          rw (w.count-is, next_elsewhere c.args.part places places at 0 refl c.loop-place-test.true w.if-place-part.false)
          c.loop-place.invariant
    ]

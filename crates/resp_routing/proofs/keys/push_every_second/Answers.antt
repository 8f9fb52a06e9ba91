use Rattle.std.proofs.Common.{◌≡◌, ℕ, ◌+◌, ◌-◌, ◌%◌, ◌<◌, List, ◌++◌, true, nat_lt, filter, ◌==◌, Ok, arith, ap, sym, ◌∙◌, eq-eqb, ne_eqb}
use Rattle.std.proofs.lemmas.Bool.{lt-ltb}
use Rattle.std.specs.List.{range_with_len}
use Rattle.resp_routing.specs.Keys.{both, every_second}
use Rattle.resp_routing.proofs.Appending.{push_kept, pass_over}
use Rattle.resp_routing.proofs.keys.push_every_second.Goals.{then-position-first-eq0+in_ok-push, else-position-first-eq0}
use Rattle.resp_routing.proofs.keys.push_every_second.Goals as goal

all_passed : (old new : List ℕ) (first left position : ℕ) → 0 < left → position ≡ first + left
    → new ≡ old ++ filter (λ place. (place - first) % 2 == 0) (range_with_len first (position - first))
    → both (Ok old) (every_second first left) ≡ Ok new
all_passed old new first left position some end held =
    let one : nat_lt 0 left ≡ true = lt-ltb 0 left some in
    let steps : position - first ≡ left = omega arith in
    rw one (ap Ok (sym (held ∙ ap (λ n. old ++ filter (λ place. (place - first) % 2 == 0) (range_with_len first n)) steps)))

pub loop-position-preserved : goal.loop-position-preserved
loop-position-preserved c =
    elim c.if-position-first-eq0.branch [
      | then-position-first-eq0+in_ok-push w ↦ rw w.positions-is
          (push_kept (λ place. (place - c.args.first) % 2 == 0) _ _ _ c.args.first c.loop-position.position (omega arith)
          (eq-eqb _ _ w.if-position-first-eq0.true) c.loop-position.invariant w.in_ok-push.ensures.items)
      | else-position-first-eq0 w ↦ rw w.positions-is
          (pass_over (λ place. (place - c.args.first) % 2 == 0) _ _ c.args.first c.loop-position.position (omega arith)
          (ne_eqb _ _ w.if-position-first-eq0.false) c.loop-position.invariant)
    ]

pub returns : goal.returns
returns c =
    all_passed _ _ c.args.first c.args.left c.loop-position.position (omega arith) (omega arith) c.loop-position.invariant

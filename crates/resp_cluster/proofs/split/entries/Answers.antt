use Rattle.std.proofs.Common.{◌-◌, drop, length, refl, sym, ◌∙◌, ℕ, ◌<◌, ◌≢◌, zero, suc, arith, length-drop, take_all}
use Rattle.resp_cluster.proofs.Splitting.{cut_once, some_left}
use Rattle.std.proofs.lemmas.Bool.{eqb-false}
use Rattle.resp_cluster.proofs.split.entries.Goals as goal

some_of : (n : ℕ) → n ≢ 0 → 0 < n
some_of zero h = absurd (h refl)
some_of (suc n) h = omega arith

pub loop-left-preserved : goal.loop-left-preserved
loop-left-preserved c =
    let fits = c.loop-left-test.true in
    let long = length-drop c.args.width c.loop-left.left.now in
    rw (
      take_all (length c.loop-left.left.now - c.args.width) (drop c.args.width c.loop-left.left.now) (omega (arith, long)),
      c.in_ok-push.ensures.items,
    )
    (cut_once _ _ _ _ _ c.loop-left.invariant fits refl)

pub returns-clause-refused : goal.returns-clause-refused
returns-clause-refused c other = (
  refl,
  some_left _ _ _ c.loop-left.invariant.rest (omega (arith, c.loop-left-test.false))
      (some_of _ (eqb-false _ 0 (sym c.is_empty.ensures ∙ c.if-is_empty.false))),
)

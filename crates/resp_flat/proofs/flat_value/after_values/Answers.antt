use Rattle.std.proofs.Common.{◌≡◌, ◌∙◌, ◌≤◌, ◌-◌, ◌^◌, ◌∷◌, length, suc, ap, sym, ℕ, arith}
use Rattle.resp_flat.specs.FlatValues.{after_values}
use Rattle.resp_flat.proofs.Skips.{token_on}
use Rattle.resp_flat.proofs.flat_value.after_values.Goals as goal

pub loop-values-preserved : goal.loop-values-preserved
loop-values-preserved c =
    let others = c.in-Some.others.now in
    let next : c.loop-values.rest.now ≡ c.in-Some.token.now ∷ others = c.in-Some.ensures.cases.0 in
    let size : length c.loop-values.rest.now ≡ suc (length others) = ap length next in
    let fewer : length others ≤ length c.args.tokens.now = omega (arith, c.loop-values.invariant.fewer) in
    let short : length others ≤ 2 ^ 64 - 1 = omega arith in
    let some = c.loop-values-test.true in record {
      same = c.loop-values.invariant.same ∙ token_on c.loop-values.values c.part_count.result (2 ^ 64 - 1)
          c.loop-values.rest.now others c.in-Some.token.now next some short c.part_count.ensures
          ∙ ap (λ (n : ℕ). after_values n others) (sym c.saturating_add-values.ensures);
      fewer = fewer;
    }

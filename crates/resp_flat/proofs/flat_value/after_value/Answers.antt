use Rattle.std.proofs.Common.{◌∙◌, ◌≤◌, ◌-◌, ◌^◌, length, ap, ℕ, arith}
use Rattle.resp_flat.specs.FlatValues.{after_values}
use Rattle.resp_flat.proofs.Skips.{capped}
use Rattle.resp_flat.proofs.flat_value.after_value.Goals as goal

pub returns : goal.returns
returns c =
    let others = c.args.others.now in
    let short : length others ≤ 2 ^ 64 - 1 = omega arith in
    c.after_values.ensures ∙ ap (λ (n : ℕ). after_values n others) c.part_count.ensures
    ∙ capped _ (2 ^ 64 - 1) others short

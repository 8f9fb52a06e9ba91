use Rattle.std.proofs.Common.{◌≡◌, ◌≤◌, ◌-◌, ◌^◌, length, true, false, arith}
use Rattle.resp_flat.specs.FlatValues.{is_attribute}
use Rattle.resp_flat.proofs.Shown.{none_described, described_shown}
use Rattle.resp_flat.proofs.flat_value.FlatValue.described.Goals as goal

pub returns-then-not-is_attribute : goal.returns-then-not-is_attribute
returns-then-not-is_attribute c = record {
  shown = λ v shows.
      let other : is_attribute c.args.self.now.token.now.kind ≡ false = cc in
      none_described c.args.self.now v shows other;
}

pub returns : goal.returns
returns c = record {
  shown = λ v shows.
      let attribute : is_attribute c.args.self.now.token.now.kind ≡ true = cc in
      let short : length c.args.self.now.others.now ≤ 2 ^ 64 - 1 = omega arith in
      described_shown c.args.self.now v (2 ^ 64 - 1) _ _ _ shows short attribute c.saturating_mul-pairs.ensures
      c.after_values.ensures c.first.ensures;
}

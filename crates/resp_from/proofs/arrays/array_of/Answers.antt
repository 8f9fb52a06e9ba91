use Rattle.std.proofs.Common.{arith}
use Rattle.resp_from.specs.Lists.{OfVec}
use Rattle.resp_from.proofs.Conversions.{Converts-shape}
use Rattle.resp_from.proofs.Sizes.{one_size}
use Rattle.resp_from.proofs.arrays.array_of.Goals as goal

pub returns-in_err-list_of : goal.returns-in_err-list_of
returns-in_err-list_of g c = record {
  converts =
      let Items = OfVec g.T.FromRedisValue.WIDTH g.T.FromRedisValue.BYTES g.T.FromRedisValue.of_value c.args.value in
      Converts-shape Items _ _ _ c.from_residual.ensures c.in_err-list_of.ensures.converts
      (λ items array. (items, array.listed));
}

pub returns : goal.returns
returns g c = record {
  converts =
      let size = one_size g.T.FromRedisValue.WIDTH g.T.FromRedisValue.BYTES g.T.FromRedisValue.of_value c.args.value in
      let v = c.in_ok-list_of.field-0 in
      rw c.from.ensures (λ items array. c.in-Err.ensures.1
      (omega (arith, v.ok.0, size v.items items c.in_ok-list_of.ensures.converts array.listed, array.sized)));
}

use Rattle.std.proofs.Common.{subst, ap, ◌∙◌, rules}
use Rattle.resp_value.specs.declared.value.Value.{out-Value}
use Rattle.resp_value.specs.declared.value.Value.TheOpen.{Value-F}
use Rattle.resp_from.specs.Conversion.{ConvertsList}
use Rattle.resp_from.specs.Rules.{OfList}
use Rattle.resp_from.proofs.TopLayer.{out-Array, out-Set, OfVec-layer}
use Rattle.resp_from.proofs.lists.list_of.Goals as goal

pub returns-in-Array : goal.returns-in-Array
returns-in-Array g c =
    let items = c.in-Array.items in
    record {
      converts = OfVec-layer g.T.FromRedisValue.WIDTH g.T.FromRedisValue.BYTES g.T.FromRedisValue.of_value c.args.value
          (Value-F.Array items) c.from_redis_values.result (ap out-Value c.in-Array.is ∙ out-Array items)
          (subst (λ vs. ConvertsList (OfList g.T.FromRedisValue.WIDTH g.T.FromRedisValue.of_value vs)
          c.from_redis_values.result) c.into_vec.ensures c.from_redis_values.ensures.converts);
    }

pub returns-in-Set : goal.returns-in-Set
returns-in-Set g c =
    let items = c.in-Set.items in
    record {
      converts = OfVec-layer g.T.FromRedisValue.WIDTH g.T.FromRedisValue.BYTES g.T.FromRedisValue.of_value c.args.value
          (Value-F.Set items) c.from_redis_values-in-Set.result (ap out-Value c.in-Set.is ∙ out-Set items)
          (subst (λ vs. ConvertsList (OfList g.T.FromRedisValue.WIDTH g.T.FromRedisValue.of_value vs)
          c.from_redis_values-in-Set.result) c.into_vec-in-Set.ensures c.from_redis_values-in-Set.ensures.converts);
    }

pub returns-in-Nil : goal.returns-in-Nil
returns-in-Nil g c = search rules

use Rattle.std.proofs.Common.{subst}
use Rattle.resp_from.specs.Conversion.{ConvertsList}
use Rattle.resp_from.specs.Rules.{OfList}
use Rattle.resp_from.proofs.conversion.FromRedisValue.from_redis_value_refs.Goals as goal

pub returns : goal.returns
returns g c =
    record {
      converts = subst (λ n. ConvertsList (OfList n g.Self.FromRedisValue.of_value c.args.values.now)
          c.convert_list_ref.result) c.WIDTH.ensures c.convert_list_ref.ensures.converts;
    }

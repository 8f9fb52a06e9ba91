use Rattle.std.proofs.Common.{subst}
use Rattle.resp_from.specs.Conversion.{ConvertsList}
use Rattle.resp_from.specs.Rules.{OfList}
use Rattle.resp_from.proofs.conversion.FromRedisValue.from_redis_values.Goals as goal

pub returns : goal.returns
returns g c =
    record {
      converts = subst (λ n. ConvertsList (OfList n g.Self.FromRedisValue.of_value c.args.values.items)
          c.convert_list.result) c.WIDTH.ensures c.convert_list.ensures.converts;
    }

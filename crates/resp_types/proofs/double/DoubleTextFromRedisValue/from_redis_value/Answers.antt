use Rattle.resp_types.proofs.Doubles.{decided, refused}
use Rattle.resp_types.proofs.double.DoubleTextFromRedisValue.from_redis_value.Goals as goal

pub returns-in_err-text-clause-converts : goal.returns-in_err-text-clause-converts
returns-in_err-text-clause-converts c =
    refused _ _ _ _ c.strip_attribute.ensures c.from_residual.ensures c.in_err-text.ensures.converts

pub returns-clause-converts : goal.returns-clause-converts
returns-clause-converts c = decided _ _ _ _ c.strip_attribute.ensures c.in_ok-text.ensures.converts c.of_text.ensures.decides

use Rattle.resp_from.proofs.Conversions.{as_vector}
use Rattle.resp_from.specs.Lists.{OfVec}
use Rattle.resp_from.proofs.lists.VecFromRedisValue.from_reply.Goals as goal

pub returns-clause-converts : goal.returns-clause-converts
returns-clause-converts g c = λ v shows.
    as_vector (OfVec g.T.FromRedisValue.WIDTH g.T.FromRedisValue.BYTES g.T.FromRedisValue.of_value v)
    c.list_of_reply.result (c.list_of_reply.ensures.converts v shows)

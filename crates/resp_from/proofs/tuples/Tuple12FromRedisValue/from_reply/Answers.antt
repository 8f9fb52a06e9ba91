use Rattle.resp_from.proofs.Conversions.{Converts-shape}
use Rattle.resp_from.proofs.tuples.Tuple12FromRedisValue.from_reply.Goals as goal

pub returns-in_err-a-clause-converts : goal.returns-in_err-a-clause-converts
returns-in_err-a-clause-converts g c = λ v shows.
    Converts-shape _ _ _ _ c.from_residual.ensures (c.in_err-a.ensures.converts v shows)
    (λ x h. ((x.0, (x.1, (x.2, (x.3, (x.4, (x.5, (x.6, (x.7, (x.8, (x.9, (x.10, (x.11, tt)))))))))))), h))

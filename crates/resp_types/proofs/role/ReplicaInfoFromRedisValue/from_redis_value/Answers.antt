use Rattle.resp_from.proofs.Conversions.{Converts-shape}
use Rattle.resp_types.proofs.role.ReplicaInfoFromRedisValue.from_redis_value.Goals as goal

pub returns-in_err-ip-clause-converts : goal.returns-in_err-ip-clause-converts
returns-in_err-ip-clause-converts c = Converts-shape _ _ _ _ c.from_residual.ensures c.in_err-ip.ensures.converts
    (λ info h. ((info.ip, (info.port, (info.replication_offset, record {}))), h))

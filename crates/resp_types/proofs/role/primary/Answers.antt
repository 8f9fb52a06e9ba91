use Rattle.resp_from.proofs.Conversions.{Converts-shape}
use Rattle.resp_types.proofs.Roles.{primary_elements}
use Rattle.resp_types.proofs.role.primary.Goals as goal

pub returns-in_err-replication_offset : goal.returns-in_err-replication_offset
returns-in_err-replication_offset c = record {
  converts = Converts-shape _ _ _ _ c.from_residual.ensures c.in_err-replication_offset.ensures.converts
      (λ role h. let e = primary_elements _ role h in ((e.0, (e.1, record {})), e.2));
}

use Rattle.resp_from.proofs.Conversions.{Converts-shape}
use Rattle.resp_types.proofs.Roles.{replica_elements}
use Rattle.resp_types.proofs.role.replica.Goals as goal

pub returns-in_err-primary_ip : goal.returns-in_err-primary_ip
returns-in_err-primary_ip c = record {
  converts = Converts-shape _ _ _ _ c.from_residual.ensures
      c.in_err-primary_ip.ensures.converts (λ role h. let e = replica_elements _ role h in
      ((e.0, (e.1, (e.2, (e.3, record {})))), e.4));
}

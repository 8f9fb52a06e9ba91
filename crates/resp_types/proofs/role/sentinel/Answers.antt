use Rattle.resp_from.proofs.Conversions.{Converts-shape}
use Rattle.resp_types.proofs.Roles.{sentinel_elements}
use Rattle.resp_types.proofs.role.sentinel.Goals as goal

pub returns-in_err-primary_names : goal.returns-in_err-primary_names
returns-in_err-primary_names c = record {
  converts = Converts-shape _ _ _ _ c.from_residual.ensures
      c.in_err-primary_names.ensures.converts (λ role h. let e = sentinel_elements _ role h in ((e.0, record {}), e.1));
}

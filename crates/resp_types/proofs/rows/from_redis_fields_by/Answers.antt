use Rattle.resp_from.proofs.Conversions.{Converts-shape}
use Rattle.resp_types.specs.lemmas.OneReply.{made_of_fields}
use Rattle.resp_types.proofs.rows.from_redis_fields_by.Goals as goal

pub returns-in_err-fields : goal.returns-in_err-fields
returns-in_err-fields g c = record {
  converts = Converts-shape _ _ _ _ c.from_residual.ensures
      c.in_err-fields.ensures.converts (λ x made. (made.via, made.fits));
}

pub returns : goal.returns
returns g c = record {
  converts = made_of_fields _ c.args.value c.in_ok-fields.fields c.from_row.result
      c.in_ok-fields.ensures.converts c.from_row.ensures.converts;
}

use Rattle.resp_types.proofs.TakingRows.{no_row, of_row}
use Rattle.resp_types.proofs.rows.from_row.Goals as goal

pub returns-in_err-row : goal.returns-in_err-row
returns-in_err-row g c = record { converts = no_row _ _ _ _ c.from_residual.ensures c.in_err-row.ensures.row }

pub returns : goal.returns
returns g c = record { converts = of_row _ _ _ _ c.in_ok-row.ensures.row c.from_redis_value_by.ensures.converts }

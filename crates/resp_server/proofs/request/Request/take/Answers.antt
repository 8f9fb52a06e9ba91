use Rattle.resp_server.proofs.PassedOn.{passed_on}
use Rattle.resp_server.proofs.request.Request.take.Goals as goal

pub returns-in_err-value-clause-takes : goal.returns-in_err-value-clause-takes
returns-in_err-value-clause-takes c =
    let error = c.in_err-value in
    λ b h. passed_on b c.take_value.new.self error.field-0.0 c.from_residual.result (error.ensures.takes b h)
    c.from_residual.ensures

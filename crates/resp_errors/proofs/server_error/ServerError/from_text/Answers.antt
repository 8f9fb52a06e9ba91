use Rattle.std.proofs.Common.{rules}
use Rattle.resp_errors.specs.ServerErrors.{server_error}
use Rattle.resp_errors.proofs.server_error.ServerError.from_text.Goals as goal

pub returns-in_ok-detail-in-Some-clause-read : goal.returns-in_ok-detail-in-Some-clause-read
unfolding server_error
returns-in_ok-detail-in-Some-clause-read c = search rules

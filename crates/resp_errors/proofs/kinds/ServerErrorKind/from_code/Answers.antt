use Rattle.std.proofs.Common.{rules}
use Rattle.resp_errors.specs.ServerErrors.{kind_of_code}
use Rattle.resp_errors.proofs.kinds.ServerErrorKind.from_code.Goals as goal

pub returns-in-ERR-clause-kind : goal.returns-in-ERR-clause-kind
unfolding kind_of_code
returns-in-ERR-clause-kind c = search rules

pub returns-in-ERR-clause-code : goal.returns-in-ERR-clause-code
returns-in-ERR-clause-code c = search rules

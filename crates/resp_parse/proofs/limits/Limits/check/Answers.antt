use Rattle.std.proofs.Common.{rules}
use Rattle.resp_parse.proofs.limits.Limits.check.Goals as goal

pub returns-then-self-eq0-clause-error : goal.returns-then-self-eq0-clause-error
returns-then-self-eq0-clause-error c = search rules

pub returns-clause-accepts : goal.returns-clause-accepts
returns-clause-accepts c = search rules

use Rattle.std.proofs.Common.{rules}
use Rattle.resp_errors.proofs.description.DescriptionPartialEq.eq.Goals as goal

pub returns : goal.returns
returns c = search rules

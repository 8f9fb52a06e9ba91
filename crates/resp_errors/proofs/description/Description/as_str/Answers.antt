use Rattle.std.proofs.Common.{rules}
use Rattle.resp_errors.proofs.description.Description.as_str.Goals as goal

pub returns-in-Owned : goal.returns-in-Owned
returns-in-Owned c = search rules

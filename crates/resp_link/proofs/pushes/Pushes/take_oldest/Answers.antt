use Rattle.std.proofs.Common.{rules}
use Rattle.resp_link.proofs.pushes.Pushes.take_oldest.Goals as goal

pub returns-clause-oldest : goal.returns-clause-oldest
returns-clause-oldest c = search rules

pub returns-clause-bytes : goal.returns-clause-bytes
returns-clause-bytes c = search rules

use Rattle.std.proofs.Common.{rules}
use Rattle.resp_connect.proofs.greeting.Steps.hello.Goals as goal

pub returns-clause-made : goal.returns-clause-made
returns-clause-made c = search rules

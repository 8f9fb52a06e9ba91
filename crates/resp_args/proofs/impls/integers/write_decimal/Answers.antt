use Rattle.std.proofs.Common.{rules}
use Rattle.resp_args.proofs.impls.integers.write_decimal.Goals as goal

pub returns-clause-ok : goal.returns-clause-ok
returns-clause-ok g c = search rules

use Rattle.std.proofs.Common.{rules}
use Rattle.resp_args.proofs.laws.law_of_dropped_writers.Goals as goal

pub returns : goal.returns
returns g c = search rules

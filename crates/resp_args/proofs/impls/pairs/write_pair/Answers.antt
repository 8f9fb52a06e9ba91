use Rattle.std.proofs.Common.{rules}
use Rattle.resp_args.proofs.impls.pairs.write_pair.Goals as goal

pub returns-then-num_of_args-gt1-clause-written : goal.returns-then-num_of_args-gt1-clause-written
returns-then-num_of_args-gt1-clause-written g c = search rules

pub returns-clause-written : goal.returns-clause-written
returns-clause-written g c = search rules

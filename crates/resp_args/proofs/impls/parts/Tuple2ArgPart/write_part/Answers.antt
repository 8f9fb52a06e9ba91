use Rattle.std.proofs.Common.{rules}
use Rattle.resp_args.proofs.JoinedArgs.{both_parts, first_in_part, second_in_part}
use Rattle.resp_args.proofs.impls.parts.Tuple2ArgPart.write_part.Goals as goal

pub returns-clause-ok : goal.returns-clause-ok
returns-clause-ok g c = search (rules, both_parts)

pub returns-in_err-write_part-clause-err : goal.returns-in_err-write_part-clause-err
returns-in_err-write_part-clause-err g c = search (rules, first_in_part)

pub returns-clause-err : goal.returns-clause-err
returns-clause-err g c = search (rules, second_in_part)

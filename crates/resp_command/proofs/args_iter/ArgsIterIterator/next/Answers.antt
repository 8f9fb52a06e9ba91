use Rattle.std.proofs.Common.{rules}
use Rattle.resp_command.proofs.args_iter.ArgsIterIterator.next.Goals as goal

pub returns-then-is_at_cursor-clause-steps : goal.returns-then-is_at_cursor-clause-steps
returns-then-is_at_cursor-clause-steps c = search rules

use Rattle.resp_command.proofs.PrefixOfPrefix.{prefix_of_prefix}
use Rattle.resp_command.proofs.packing.append_packed.Goals as goal

pub returns-in_err-write_frame-clause-prefix : goal.returns-in_err-write_frame-clause-prefix
returns-in_err-write_frame-clause-prefix c = prefix_of_prefix _ _ _ _ c.loop-arg.invariant c.write_frame.ensures.prefix

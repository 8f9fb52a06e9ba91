use Rattle.std.proofs.Common.{refl}
use Rattle.resp_cluster.proofs.link_commands.is_link_command.Goals as goal

pub returns-in-None : goal.returns-in-None
returns-in-None c = rw (← c.args_iter-shown.ensures.shown, c.in-None.ensures.none) refl

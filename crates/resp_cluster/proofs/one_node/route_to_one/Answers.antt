use Rattle.std.proofs.Common.{refl, sym, ◌∙◌}
use Rattle.resp_cluster.proofs.Destinations.{several_then, unrouted_then}
use Rattle.resp_cluster.proofs.one_node.route_to_one.Goals as goal

pub returns-in-Ok-2-clause-refused : goal.returns-in-Ok-2-clause-refused
returns-in-Ok-2-clause-refused c = λ differ. several_then c.args.command.now _ refl _ c.in-Ok.route
    c.in-Ok.ensures.routed (sym c.is_to_one.ensures ∙ c.if-is_to_one.false) refl

pub returns-in-Err-clause-refused : goal.returns-in-Err-clause-refused
returns-in-Err-clause-refused c = λ differ.
    unrouted_then c.args.command.now _ refl _ c.in-Err.why c.in-Err.ensures.refused refl differ

use Rattle.resp_routing.proofs.Within.{within}
use Rattle.resp_routing.proofs.keys.keys_of.Goals as goal

pub returns-clause-within : goal.returns-clause-within
returns-clause-within c =
    within c.in-Some.command.now.keys c.args.args.now c.new-positions.result.items c.push_keys.new.positions.items
    c.new-positions.ensures.items c.in_ok-push_keys.ensures

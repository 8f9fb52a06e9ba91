use Rattle.resp_routing.specs.Keys.{keys_in}
use Rattle.resp_routing.proofs.Appending.{then_adds}
use Rattle.resp_routing.proofs.commands.Keys.push_keys.Goals as goal

pub returns-in_ok-push_both-in-Three : goal.returns-in_ok-push_both-in-Three
unfolding keys_in
returns-in_ok-push_both-in-Three c =
    rw c.in-Three.is (then_adds _ _ _ _ _ _ c.in_ok-push_both-in-Three.ensures c.push_keys-in-Three.ensures)

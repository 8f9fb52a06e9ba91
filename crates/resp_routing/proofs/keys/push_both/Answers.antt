use Rattle.resp_routing.proofs.Appending.{then_adds}
use Rattle.resp_routing.proofs.keys.push_both.Goals as goal

pub returns : goal.returns
returns c = then_adds _ _ _ _ _ _ c.in_ok-push_keys.ensures c.push_keys-2.ensures

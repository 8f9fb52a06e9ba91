use Rattle.resp_routing.proofs.OneTag.{not_apart, one_slot}
use Rattle.resp_routing.proofs.laws.law_of_slots.Goals as goal

pub returns-clause-slot : goal.returns-clause-slot
returns-clause-slot c = one_slot

pub returns-clause-slots : goal.returns-clause-slots
returns-clause-slots c = not_apart

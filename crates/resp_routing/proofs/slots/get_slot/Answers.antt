use Rattle.resp_routing.proofs.WithoutBrace.{whole_slot}
use Rattle.resp_routing.proofs.slots.get_slot.Goals as goal

pub returns-in-Some-clause-slot : goal.returns-in-Some-clause-slot
returns-in-Some-clause-slot c = whole_slot c.args.key.now c.in-Some.checksum c.in-Some.ensures

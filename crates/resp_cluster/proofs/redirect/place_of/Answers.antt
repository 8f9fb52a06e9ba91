use Rattle.std.proofs.Common.{arith, rules}
use Rattle.resp_cluster.specs.Redirects.{space}
use Rattle.resp_cluster.proofs.RedirectTexts.{at_first, no_space, no_slot, no_node}
use Rattle.resp_cluster.proofs.redirect.place_of.Goals as goal

pub returns-in_default : goal.returns-in_default
returns-in_default c = no_space c.args.asked.now c.args.text.now c.in_default.ensures.cases

pub returns-in_default-slot_number : goal.returns-in_default-slot_number
returns-in_default-slot_number c slot node named =
    no_slot c.args.asked.now c.args.text.now c.in-Some.slot.now c.in-Some.address.now
    (at_first space c.args.text.now c.in-Some.slot.now c.in-Some.address.now (omega arith) c.in-Some.ensures.cases)
    slot node named c.in_default-slot_number.ensures

pub returns-in-Some-2 : goal.returns-in-Some-2
returns-in-Some-2 c = record {
  number = c.in-Some.slot.now;
  address = c.in-Some.address.now;
  parts = at_first space c.args.text.now c.in-Some.slot.now c.in-Some.address.now (omega arith) c.in-Some.ensures.cases;
  slot_is = c.in-Some-slot_number.ensures.0;
  in_range = c.in-Some-slot_number.ensures.1;
  node_is = search rules;
}

pub returns-in-None : goal.returns-in-None
returns-in-None c slot node named =
    no_node c.args.asked.now c.args.text.now c.in-Some.slot.now c.in-Some.address.now
    (at_first space c.args.text.now c.in-Some.slot.now c.in-Some.address.now (omega arith) c.in-Some.ensures.cases)
    slot node named (search rules)

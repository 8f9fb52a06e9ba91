use Rattle.std.proofs.Common.{rules}
use Rattle.resp_cluster.proofs.Moves.{there_then, elsewhere_then}
use Rattle.resp_cluster.proofs.Indexing.{same_entries, put_first}
use Rattle.resp_cluster.proofs.slot_map.SlotMap.set_primary.Goals as goal

pub returns-in-Some-clause-there : goal.returns-in-Some-clause-there
returns-in-Some-clause-there c = there_then c.args.slot c.args.node c.args.self.now _ (search rules)

pub returns-in-Some-clause-elsewhere : goal.returns-in-Some-clause-elsewhere
returns-in-Some-clause-elsewhere c = elsewhere_then c.args.slot c.args.node c.args.self.now _ (search rules)

pub invariant_of-self : goal.invariant_of-self
invariant_of-self c =
    let view = c.self.view_is in
    rw c.new.ensures (same_entries c.args.slot c.args.node c.self.inside.ranges.items c.in-Some.place
    c.self.inside.index (search rules) (search rules) c.self.invariant)

pub invariant_of-self-in-None : goal.invariant_of-self-in-None
invariant_of-self-in-None c = put_first _ c.index.result.now c.self.inside.ranges.items c.insert.new.self.items
    c.self.inside.index c.enter.new.self c.len.result c.in_ok-insert-in-None.ensures.items c.index.ensures
    (search rules) c.self.invariant c.enter.ensures

use Rattle.std.proofs.Common.{take}
use Rattle.resp_cluster.specs.Splits.{BySlot, entries_in}
use Rattle.resp_cluster.proofs.split.by_slot.Given as goal

abbrev pub invariant-loop-entry : goal.invariant-loop-entry
invariant-loop-entry l = BySlot l.slots.items l.places.items (entries_in (take l.entry-index l.entries))

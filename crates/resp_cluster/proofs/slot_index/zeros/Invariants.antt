use Rattle.std.proofs.Common.{[]}
use Rattle.resp_cluster.specs.SlotIndexes.{IsIndex}
use Rattle.resp_cluster.proofs.slot_index.zeros.Given as goal

abbrev pub invariant-loop : goal.invariant-loop
invariant-loop l = IsIndex [] l.entries.items

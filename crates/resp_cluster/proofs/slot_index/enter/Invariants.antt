use Rattle.resp_cluster.proofs.Indexing.{EntersBelow}
use Rattle.resp_cluster.proofs.slot_index.enter.Given as goal

abbrev pub invariant-loop-slot : goal.invariant-loop-slot
invariant-loop-slot l = EntersBelow l.slot l.range l.distance l.initial.entries l.entries

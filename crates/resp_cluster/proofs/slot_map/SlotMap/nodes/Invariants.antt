use Rattle.std.proofs.Common.{take}
use Rattle.resp_cluster.specs.Primaries.{AreNodes}
use Rattle.resp_cluster.proofs.slot_map.SlotMap.nodes.Given as goal

abbrev pub invariant-loop-range : goal.invariant-loop-range
invariant-loop-range l = AreNodes (take l.range-index l.self) l.nodes

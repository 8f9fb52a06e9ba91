use Rattle.std.proofs.Common.{take}
use Rattle.resp_cluster.specs.Primaries.{ArePrimaries}
use Rattle.resp_cluster.proofs.slot_map.SlotMap.primaries.Given as goal

abbrev pub invariant-loop-range : goal.invariant-loop-range
invariant-loop-range l = ArePrimaries (take l.range-index l.self) l.nodes

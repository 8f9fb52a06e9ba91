use Rattle.std.proofs.Common.{◌≡◌, drop}
use Rattle.resp_cluster.specs.Cluster.{first_primary}
use Rattle.resp_cluster.proofs.slot_map.SlotMap.first_primary.Given as goal

abbrev pub invariant-loop-range : goal.invariant-loop-range
invariant-loop-range l = first_primary l.self ≡ first_primary (drop l.range-index l.self)

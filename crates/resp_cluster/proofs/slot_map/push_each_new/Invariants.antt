use Rattle.std.proofs.Common.{take}
use Rattle.resp_cluster.specs.Primaries.{AreWithNew}
use Rattle.resp_cluster.proofs.slot_map.push_each_new.Given as goal

abbrev pub invariant-loop-node : goal.invariant-loop-node
invariant-loop-node l = AreWithNew (take l.node-index l.more) l.initial.nodes l.nodes

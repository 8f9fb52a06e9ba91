use Rattle.std.proofs.Common.{◌≡◌, map, take}
use Rattle.resp_cluster.specs.Merges.{bit}
use Rattle.resp_cluster.proofs.truths.truths_of.Given as goal

abbrev pub invariant-loop-item : goal.invariant-loop-item
invariant-loop-item l = take l.item-index l.item-items ≡ map bit l.truths.items

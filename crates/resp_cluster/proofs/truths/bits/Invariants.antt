use Rattle.std.proofs.Common.{◌≡◌, map, take}
use Rattle.resp_cluster.specs.Merges.{bit}
use Rattle.resp_cluster.proofs.truths.bits.Given as goal

abbrev pub invariant-loop-truth : goal.invariant-loop-truth
invariant-loop-truth l = l.items.items ≡ map bit (take l.truth-index l.truths)

use Rattle.std.proofs.Common.{◌≡◌, take}
use Rattle.resp_cluster.specs.Merges.{both}
use Rattle.resp_cluster.proofs.truths.both.Given as goal

abbrev pub invariant-loop-place : goal.invariant-loop-place
invariant-loop-place l = l.truths.items ≡ both (take l.place l.one) (take l.place l.other)

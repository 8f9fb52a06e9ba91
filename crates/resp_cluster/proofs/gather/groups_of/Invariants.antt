use Rattle.std.proofs.Common.{◌≡◌, take, length}
use Rattle.resp_cluster.specs.Gathering.{AreGroups}
use Rattle.resp_cluster.proofs.gather.groups_of.Given as goal

abbrev pub invariant-loop-place : goal.invariant-loop-place
invariant-loop-place l =
    (length l.groups.items ≡ l.nodes) × AreGroups (take l.place l.targets) (take l.place l.commands) l.groups.items

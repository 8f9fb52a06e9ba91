use Rattle.std.proofs.Common.{◌≡◌, [], length}
use Rattle.resp_cluster.specs.Gathering.{AreGroups}
use Rattle.resp_cluster.proofs.gather.no_groups.Given as goal

abbrev pub invariant-loop : goal.invariant-loop
invariant-loop l = (length l.groups.items ≡ l.counter) × AreGroups [] [] l.groups.items

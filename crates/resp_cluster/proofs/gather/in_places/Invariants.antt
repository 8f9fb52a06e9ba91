use Rattle.std.proofs.Common.{map}
use Rattle.resp_cluster.proofs.Gathers.{Placing}
use Rattle.resp_cluster.specs.Gathering.{from_last}
use Rattle.resp_cluster.proofs.gather.in_places.Given as goal

abbrev pub invariant-loop-target : goal.invariant-loop-target
invariant-loop-target l =
    Placing (map from_last l.initial.groups.items) (map from_last l.groups.items) l.targets l.target-index l.replies.items

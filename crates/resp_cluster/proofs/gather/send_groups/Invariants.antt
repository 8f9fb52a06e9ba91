use Rattle.std.proofs.Common.{◌≡◌, length, map}
use Rattle.resp_cluster.specs.Gathered.{SentEach}
use Rattle.resp_cluster.specs.Gathering.{from_last}
use Rattle.resp_cluster.proofs.gather.send_groups.Given as goal

abbrev pub invariant-loop-place : goal.invariant-loop-place
invariant-loop-place g l =
    (length l.all_replies.items ≡ l.place)
    × SentEach g.C.SendGroups.sends l.commands l.targets 0 l.nodes l.initial.cluster (map from_last l.all_replies.items) l.cluster

use Rattle.std.specs.Vec.Iter.{into_iter_items}
use Rattle.std.specs.Iterator.Adapters.{enumerate_source, enumerate_count}
use Rattle.resp_cluster.proofs.Following.{FollowedSoFar}
use Rattle.resp_cluster.proofs.gather.follow_each.Given as goal

abbrev pub invariant-loop-place : goal.invariant-loop-place
invariant-loop-place g l =
    (goal.iterator-loop-place g).can_next l.place-iterator
    × (goal.iterator-loop-place g).is_finite l.place-iterator
    × FollowedSoFar g.C.SendGroups.follows l.nodes l.initial.cluster l.targets l.commands l.fn.replies.items l.answers.items
    (into_iter_items (enumerate_source l.place-iterator)) (enumerate_count l.place-iterator) l.cluster

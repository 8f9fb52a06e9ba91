use Rattle.std.proofs.Common.{◌≡◌, ◌++◌}
use Rattle.std.specs.List.{flat_map}
use Rattle.std.specs.Vec.Iter.{into_iter_items}
use Rattle.resp_cluster.specs.FannedOut.{items_of}
use Rattle.resp_cluster.proofs.merge.joined.Given as goal

abbrev pub invariant-loop-reply : goal.invariant-loop-reply
invariant-loop-reply l = l.items.items ++ flat_map items_of (into_iter_items l.reply-iterator) ≡ flat_map items_of l.fn.replies.items

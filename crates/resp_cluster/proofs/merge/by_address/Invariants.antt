use Rattle.std.specs.Vec.Iter.{into_iter_items}
use Rattle.resp_cluster.proofs.Combining.{PairedSoFar}
use Rattle.resp_cluster.proofs.merge.by_address.Given as goal

abbrev pub invariant-loop-reply : goal.invariant-loop-reply
invariant-loop-reply l = PairedSoFar l.nodes l.fn.replies.items l.pairs.items (into_iter_items l.reply-iterator)

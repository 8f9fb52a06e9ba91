use Rattle.std.proofs.Common.{◌≡◌}
use Rattle.std.specs.List.{find}
use Rattle.std.specs.Vec.Iter.{into_iter_items}
use Rattle.resp_cluster.specs.FannedOut.{succeeds}
use Rattle.resp_cluster.proofs.Combining.{FirstFailure}
use Rattle.resp_cluster.proofs.cluster_link.fan_out.first_success.Given as goal

abbrev pub invariant-loop-reply : goal.invariant-loop-reply
invariant-loop-reply l =
    (find succeeds l.fn.replies.items ≡ find succeeds (into_iter_items l.reply-iterator))
    × FirstFailure l.fn.replies.items (into_iter_items l.reply-iterator) l.failure

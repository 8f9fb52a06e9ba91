use Rattle.std.proofs.Common.{◌≡◌, ◌++◌}
use Rattle.std.specs.Vec.Iter.{into_iter_items}
use Rattle.resp_cluster.specs.Merges.{first_error_in}
use Rattle.resp_cluster.proofs.merge.without_errors.Given as goal

abbrev pub invariant-loop-reply : goal.invariant-loop-reply
invariant-loop-reply l =
    (l.passed.items ++ into_iter_items l.reply-iterator ≡ l.fn.replies.items)
    × (first_error_in l.fn.replies.items ≡ first_error_in (into_iter_items l.reply-iterator))

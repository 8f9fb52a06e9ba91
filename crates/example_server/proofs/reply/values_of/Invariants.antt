use Rattle.std.proofs.Common.{◌≡◌, ◌++◌, map}
use Rattle.std.specs.Vec.Iter.{into_iter_items}
use Rattle.example_server.specs.Replies.{value_of}
use Rattle.example_server.proofs.reply.values_of.Given as goal

abbrev pub invariant-loop-reply : goal.invariant-loop-reply
invariant-loop-reply l =
    (goal.iterator-loop-reply).can_next l.reply-iterator ×
    (goal.iterator-loop-reply).is_finite l.reply-iterator ×
    (l.values ++ map value_of (into_iter_items l.reply-iterator) ≡ map value_of l.fn.replies.items)

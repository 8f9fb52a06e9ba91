use Rattle.std.proofs.Common.{◌≡◌}
use Rattle.std.specs.Slice.Iter.{iter_rest}
use Rattle.std.specs.Vec.Iter.{into_iter_items}
use Rattle.resp_connect.specs.Greeting.{refusals}
use Rattle.resp_connect.proofs.greeting.accept.Given as goal

abbrev pub invariant-loop-reply : goal.invariant-loop-reply
invariant-loop-reply l =
    (goal.iterator-loop-reply).can_next l.reply-iterator ×
    (goal.iterator-loop-reply).is_finite l.reply-iterator ×
    (refusals (iter_rest l.asked) (into_iter_items l.reply-iterator) ≡ refusals l.fn.steps l.fn.replies.items)

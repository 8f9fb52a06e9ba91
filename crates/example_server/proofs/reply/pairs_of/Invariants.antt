use Rattle.std.proofs.Common.{◌≡◌, ◌++◌, map}
use Rattle.std.specs.Vec.Iter.{into_iter_items}
use Rattle.example_server.specs.Replies.{pair_value}
use Rattle.example_server.proofs.reply.pairs_of.Given as goal

abbrev pub invariant-loop-field : goal.invariant-loop-field
invariant-loop-field l =
    (goal.iterator-loop-field).can_next l.field-iterator ×
    (goal.iterator-loop-field).is_finite l.field-iterator ×
    (l.pairs ++ map pair_value (into_iter_items l.field-iterator)
    ≡ map pair_value l.fn.fields.items)

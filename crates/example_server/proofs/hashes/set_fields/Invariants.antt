use Rattle.std.proofs.Common.{◌≡◌, ◌≤◌, length}
use Rattle.std.specs.Vec.Iter.{into_iter_items}
use Rattle.example_server.specs.KeyCommands.{with_fields}
use Rattle.example_server.proofs.hashes.set_fields.Given as goal

abbrev pub invariant-loop-field : goal.invariant-loop-field
invariant-loop-field l =
    (goal.iterator-loop-field).can_next l.field-iterator ×
    (goal.iterator-loop-field).is_finite l.field-iterator ×
    (l.before ≤ length l.fields.entries) ×
    (with_fields l.fields.entries (into_iter_items l.field-iterator)
    ≡ with_fields l.initial.fields.entries l.fn.pairs.items)

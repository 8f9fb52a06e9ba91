use Rattle.std.proofs.Common.{◌≡◌, ◌≤◌, length}
use Rattle.std.specs.Vec.Iter.{into_iter_items}
use Rattle.example_server.specs.KeyCommands.{without}
use Rattle.example_server.proofs.keys.del.Given as goal

abbrev pub invariant-loop-key : goal.invariant-loop-key
invariant-loop-key l =
    (goal.iterator-loop-key).can_next l.key-iterator ×
    (goal.iterator-loop-key).is_finite l.key-iterator ×
    (length l.store.entries ≤ l.before) ×
    (without (into_iter_items l.key-iterator) l.store.entries
    ≡ without l.fn.keys.items l.initial.store.entries)

use Rattle.std.proofs.Common.{◌≡◌, ◌++◌, map}
use Rattle.example_server.specs.KeyCommands.{shown}
use Rattle.example_server.proofs.hashes.copies.Given as goal

abbrev pub invariant-loop-field : goal.invariant-loop-field
invariant-loop-field l =
    (goal.iterator-loop-field).can_next l.field-iterator ×
    (goal.iterator-loop-field).is_finite l.field-iterator ×
    (l.pairs ++ map shown l.field-iterator ≡ map shown l.fn.fields.entries)

use Rattle.std.proofs.Common.{◌≡◌, ◌++◌}
use Rattle.std.specs.Vec.Iter.{into_iter_items}
use Rattle.std.specs.Iterator.Adapters.{enumerate_source, enumerate_count}
use Rattle.resp_pipeline.specs.Outcome.{errors_from, errors_of}
use Rattle.resp_pipeline.proofs.composing.into_server_errors.Given as goal

abbrev pub invariant-loop-position : goal.invariant-loop-position
invariant-loop-position l =
    (goal.iterator-loop-position).can_next l.position-iterator ×
    (goal.iterator-loop-position).is_finite l.position-iterator ×
    (l.errors ++ errors_from (enumerate_count l.position-iterator)
    (into_iter_items (enumerate_source l.position-iterator)) ≡ errors_of l.fn.items.items)

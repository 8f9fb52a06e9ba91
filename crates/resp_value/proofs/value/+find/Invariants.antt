use Rattle.std.proofs.Common.{◌≡◌, ◌+◌, ◌*◌, map}
use Rattle.std.specs.Vec.Iter.{into_iter_items}
use Rattle.resp_value.specs.FirstError.{first_error, first_some, first_of_pairs}
use Rattle.resp_value.proofs.value.+find.Given as goal

abbrev pub invariant-first_error_in-loop-element : goal.invariant-first_error_in-loop-element
invariant-first_error_in-loop-element l =
    (goal.iterator-first_error_in-loop-element).can_next l.element-iterator ×
    (goal.iterator-first_error_in-loop-element).is_finite l.element-iterator ×
    (first_some (map first_error (into_iter_items l.element-iterator)) ≡ first_some (map first_error l.fn.elements))

abbrev pub invariant-first_error_in_pairs-loop-pair : goal.invariant-first_error_in_pairs-loop-pair
invariant-first_error_in_pairs-loop-pair l =
    (goal.iterator-first_error_in_pairs-loop-pair).can_next l.pair-iterator ×
    (goal.iterator-first_error_in_pairs-loop-pair).is_finite l.pair-iterator ×
    (first_of_pairs (map (λ p. (first_error p.0, first_error p.1)) (into_iter_items l.pair-iterator))
    ≡ first_of_pairs (map (λ p. (first_error p.0, first_error p.1)) l.fn.pairs))

abbrev pub decreases-Value::into_first_error : goal.decreases-Value::into_first_error
decreases-Value::into_first_error l = 3 * goal.size-Value::into_first_error l

abbrev pub decreases-first_error_in : goal.decreases-first_error_in
decreases-first_error_in l = 3 * goal.size-first_error_in l + 1

abbrev pub decreases-first_error_in_pair : goal.decreases-first_error_in_pair
decreases-first_error_in_pair l = 3 * goal.size-first_error_in_pair l + 1

abbrev pub decreases-first_error_in_pairs : goal.decreases-first_error_in_pairs
decreases-first_error_in_pairs l = 3 * goal.size-first_error_in_pairs l + 2

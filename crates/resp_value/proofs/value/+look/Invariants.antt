use Rattle.std.proofs.Common.{◌≡◌, drop, map}
use Rattle.resp_value.specs.FirstError.{first_error, first_some, first_of_pairs}
use Rattle.resp_value.proofs.value.+look.Given as goal

abbrev pub invariant-any_has_error-loop-element : goal.invariant-any_has_error-loop-element
invariant-any_has_error-loop-element l = first_some (map first_error (drop l.element-index l.elements))
    ≡ first_some (map first_error l.elements)

abbrev pub invariant-any_pair_has_error-loop-key : goal.invariant-any_pair_has_error-loop-key
invariant-any_pair_has_error-loop-key l = first_of_pairs
    (map (λ p. (first_error p.0, first_error p.1)) (drop l.key-index l.pairs))
    ≡ first_of_pairs (map (λ p. (first_error p.0, first_error p.1)) l.pairs)

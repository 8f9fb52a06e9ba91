-- Pairs as keys and values in turn.
use Rattle.std.proofs.Common.{◌≡◌, List, [], ◌∷◌, ◌++◌, refl, ap}
use Rattle.resp_value.specs.declared.value.Value.{Value}
use Rattle.resp_from.specs.Tuples.{in_turn}

pub in_turn-push : (pairs : List (Value × Value)) (pair : Value × Value)
    → in_turn (pairs ++ pair ∷ []) ≡ (in_turn pairs ++ pair.0 ∷ []) ++ pair.1 ∷ []
in_turn-push [] pair = refl
in_turn-push (p ∷ pairs) pair = ap (λ values. p.0 ∷ p.1 ∷ values) (in_turn-push pairs pair)

-- How many values a value is built of: itself, the values in it, and of a push its first element,
-- of which its kind was made.
use Rattle.std.specs.Prelude.{ℕ, suc, ◌+◌, List, [], ◌∷◌, sum}
use Rattle.resp_value.specs.declared.value.Value.{Value, fold-Value}
use Rattle.resp_value.specs.declared.value.Value.TheOpen.{Value-F}
use Rattle.resp_value.specs.declared.names.PushKind.{PushKind}
use Rattle.resp_value.specs.declared.names.PushKind.TheVariants.{Other}

abbrev pub sum_of_pairs : List (ℕ × ℕ) → ℕ
sum_of_pairs [] = 0
sum_of_pairs (p ∷ ps) = p.0 + p.1 + sum_of_pairs ps

-- the first element of a push: none is counted where both name and payload are empty, which is the
-- value of a push of no elements too
abbrev pub first_built : PushKind → List ℕ → ℕ
first_built (Other []) [] = 0
first_built _ _ = 1

-- of a value, by what its elements are built of
abbrev pub built_step : Value-F ℕ → ℕ
built_step (Value-F.Array elements) = suc (sum elements)
built_step (Value-F.Set elements) = suc (sum elements)
built_step (Value-F.Push kind payload) = suc (first_built kind payload + sum payload)
built_step (Value-F.Map pairs) = suc (sum_of_pairs pairs)
built_step (Value-F.Attribute payload attributes) = suc (payload + sum_of_pairs attributes)
built_step _ = 1

abbrev pub built : Value → ℕ
built = fold-Value ℕ built_step

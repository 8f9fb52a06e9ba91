-- Lists two by two.
use Rattle.std.proofs.Common.{◌≡◌, ◌/◌, ◌∷◌, List, [], length, refl, arith}
use Rattle.resp_value.specs.declared.value.Value.{Value}
use Rattle.resp_value.specs.Views.{pairs}

pub pairs_counted : (values : List Value) → length (pairs values) ≡ length values / 2
pairs_counted [] = refl
pairs_counted (key ∷ []) = refl
pairs_counted (key ∷ value ∷ rest) = let others = pairs_counted rest in omega arith

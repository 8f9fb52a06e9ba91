-- A list of which one place was set.
use Rattle.std.proofs.Common.{◌≡◌, ◌≢◌, ℕ, ◌<◌, List, Some, sym, ap, ◌∙◌, length, arith}
use Rattle.std.specs.List.{slice_get, slice_set}
use Rattle.std.proofs.lemmas.Option.{slice_get_within, get_or_from_slice_get, slice_get-get_or}
use Rattle.std.proofs.lemmas.List.{get_or-set_same, get_or-set_other, length-set}

-- what stands there, and elsewhere
pub what_was_set : {A : Type 0} (xs : List A) (i : ℕ) (x y : A) → slice_get (slice_set xs i x) i ≡ Some y → y ≡ x
what_was_set xs i x y is = sym (get_or_from_slice_get (slice_set xs i x) i y y is)
    ∙ get_or-set_same xs i x y (omega (arith, slice_get_within (slice_set xs i x) i y is, length-set xs i x))

pub what_stayed : {A : Type 0} (xs : List A) (i j : ℕ) (x y : A) → j ≢ i → slice_get (slice_set xs i x) j ≡ Some y
    → slice_get xs j ≡ Some y
what_stayed xs i j x y differ is = slice_get-get_or xs j y within
    ∙ ap Some (sym (get_or-set_other xs i j x y differ) ∙ get_or_from_slice_get (slice_set xs i x) j y y is)
  where
    within : j < length xs
    within = omega (arith, slice_get_within (slice_set xs i x) j y is, length-set xs i x)

-- True is not false.
use Rattle.std.proofs.Common.{◌≡◌, Bool, true, false, subst}

abbrev Holds : Bool → Type 0
Holds true = Unit {0}
Holds false = ⊥

pub true_is_not_false : true ≡ false → ⊥
true_is_not_false e = subst Holds e tt

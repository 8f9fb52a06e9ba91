-- Structural equality.
use Rattle.std.specs.Prelude.{◌≡◌, Bool, IsTrue}

-- values of which the test holds are the same
abbrev pub IsStructural : {A : Type 0} → (A → A → Bool) → Type 0
IsStructural {A} eq = (a b : A) → IsTrue (eq a b) → a ≡ b

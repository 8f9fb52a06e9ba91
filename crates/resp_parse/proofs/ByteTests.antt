-- Tests of bytes.
use Rattle.std.proofs.Common.{◌≡◌, ◌≢◌, ℕ, Bool, true, false, ◌==◌, refl}
use Rattle.std.proofs.lemmas.Bool.Decides.{Decides-eqb}

pub not_true : (b : Bool) → (b ≡ true → ⊥) → b ≡ false
not_true true h = absurd (h refl)
not_true false h = refl

pub eq_true : (a b : ℕ) → a ≡ b → (a == b) ≡ true
eq_true a b e = (Decides-eqb a b).1 e

pub eq_false : (a b : ℕ) → a ≢ b → (a == b) ≡ false
eq_false a b n = not_true (a == b) (λ t. n ((Decides-eqb a b).0 t))

-- Clones.
use Rattle.std.specs.Prelude.{◌≡◌}

-- a clone is the value, and never fails
pub record IsExact {A : Type 0} (Clones : A → A → Type 0) (Succeeds : A → Type 0) : Type 0 where
  pub same : (a b : A) → Clones a b → b ≡ a
  pub succeeds : (a : A) → Succeeds a

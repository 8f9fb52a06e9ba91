-- Bytes that are kept in the value itself where they are few, and else in an allocation.
use Rattle.std.specs.Prelude.{◌≡◌, ◌≢◌, ℕ, ◌≤◌, List, [], length}

-- the first `used` of the few, or the many, where there are any
pub record IsOneOf (size : ℕ) (used : ℕ) (few : List ℕ) (many : List ℕ) : Type 0 where
  pub fits : used ≤ size
  pub whole : length few ≡ size
  pub one : many ≢ [] → used ≡ 0

-- Where lines end.
use Rattle.std.proofs.Common.{◌≡◌, ℕ, Bool, List, length, None, not, arith}
use Rattle.std.proofs.lemmas.List.Sums.{prefix_len-le-length}
use Rattle.std.specs.List.{position, position_or_len}

-- a byte that isn't found stands nowhere
pub nowhere : (p : ℕ → Bool) (b : List ℕ) → position p b ≡ None → position_or_len p b ≡ length b
nowhere p b h = grind (arith, prefix_len-le-length (λ c. not (p c)) b)

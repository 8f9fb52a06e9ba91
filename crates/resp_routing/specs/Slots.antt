-- The slot of a key.
use Rattle.std.specs.Prelude.{◌≡◌, ℕ, ◌+◌, ◌<◌, ◌%◌, ◌⊎◌, List, drop, take, Some}
use Rattle.memchr.specs.Find.{IsFirstByte, is_byte}
use Rattle.resp_routing.specs.Checksums.{remainder}

-- the first { is at i, and the first } after it follows n bytes later
pub record Braces (key : List ℕ) (i n : ℕ) : Type 0 where
  pub opens : IsFirstByte (is_byte 0x7b) key (Some i)
  pub closes : IsFirstByte (is_byte 0x7d) (drop (i + 1) key) (Some n)

-- the tag stands between these braces, and isn't empty; where there is no such tag, it is the whole key
abbrev pub IsHashTag : List ℕ → List ℕ → Type 0
IsHashTag key tag =
    ((i : ℕ) × ((n : ℕ) × (Braces key i n × (0 < n) × (tag ≡ take n (drop (i + 1) key)))))
    ⊎ (((i n : ℕ) → Braces key i n → n ≡ 0) × (tag ≡ key))

abbrev pub IsSlot : List ℕ → ℕ → Type 0
IsSlot key slot = (tag : List ℕ) × (IsHashTag key tag × (slot ≡ remainder tag % 16384))

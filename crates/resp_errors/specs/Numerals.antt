-- Decimal texts of unsigned integers.
use Rattle.std.specs.Prelude.{◌≡◌, ℕ, ◌<◌, ◌^◌, List}
use Rattle.std.specs.Str.Parse.{IsNumeral, digits_value, without_leading_plus}

-- the text is an optional `+` and digits, and writes the integer x of the unsigned type of k bits
abbrev pub UnsignedText : ℕ → List ℕ → ℕ → Type 0
UnsignedText k text x = IsNumeral 10 (without_leading_plus text) × (x < 2 ^ k)
    × (x ≡ digits_value 10 (without_leading_plus text))

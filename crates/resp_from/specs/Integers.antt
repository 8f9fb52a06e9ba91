-- Integers of replies: a number, or a text that writes one (RESP, "Integers").
use Rattle.std.specs.Prelude.{◌≡◌, ℕ, ◌<◌, ◌^◌, ℤ, pos, List, FitsSigned}
use Rattle.std.specs.Int.{Width}
use Rattle.std.specs.Str.{IsUtf8}
use Rattle.std.specs.Str.Parse.{IsNumeral, signed_digits_value, without_leading_sign}
pub use Rattle.resp_errors.specs.Numerals.{UnsignedText}
use Rattle.resp_value.specs.declared.value.Value.{Value, out-Value}
use Rattle.resp_value.specs.declared.value.Value.TheOpen.{Value-F}
use Rattle.resp_from.specs.Attributes.{stripped}

-- the number n is the integer x of the signed type of this width
abbrev pub SignedNumber : Width → ℤ → ℤ → Type 0
SignedNumber w n x = FitsSigned w n × (x ≡ n)

-- the text is an optional sign and digits, and writes the integer x of the signed type of this
-- width
abbrev pub SignedText : Width → List ℕ → ℤ → Type 0
SignedText w text x =
    IsNumeral 10 (without_leading_sign text) × SignedNumber w (signed_digits_value 10 text) x

-- the number n is the integer x of the unsigned type of k bits
abbrev pub UnsignedNumber : ℕ → ℤ → ℕ → Type 0
UnsignedNumber k n x = (x < 2 ^ k) × (n ≡ pos x)

-- the bytes are text, and write the integer x as the type reads texts
abbrev pub OfTextBytes : {X : Type 0} → (List ℕ → X → Type 0) → List ℕ → X → Type 0
OfTextBytes Writes bytes x = IsUtf8 bytes × Writes bytes x

-- a reply without its attribute is the integer x: by its number, or by its text, as the type reads
-- them
abbrev pub IsInteger : {X : Type 0} → (ℤ → X → Type 0) → (List ℕ → X → Type 0) → Value-F Value → X
    → Type 0
IsInteger Number Writes (Value-F.Int n) x = Number n x
IsInteger Number Writes (Value-F.SimpleString text) x = Writes text x
IsInteger Number Writes (Value-F.BulkString bytes) x = OfTextBytes Writes bytes x
IsInteger Number Writes _ x = ⊥

-- the reply is the integer x
abbrev pub OfInteger : {X : Type 0} → (ℤ → X → Type 0) → (List ℕ → X → Type 0) → Value → X → Type 0
OfInteger Number Writes reply x = IsInteger Number Writes (out-Value (stripped reply)) x

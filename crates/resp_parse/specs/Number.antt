-- Integer lines (RESP, "Integers").
use Rattle.std.specs.Prelude.{◌≡◌, ℕ, ◌<◌, ◌^◌, Bool, ◌&&◌, cond, nat_lt, nat_le, List, length, ℤ, pos, negsuc, Option}
use Rattle.std.specs.Prelude.{None, Some, Result, Ok, Err}
use Rattle.std.specs.Char.{is_ascii_digit}
use Rattle.std.specs.List.{list_all}
use Rattle.std.specs.Str.{IsUtf8, trim}
use Rattle.std.specs.Str.Parse.{without_leading_sign, signed_digits_value, digits_value, starts_with_minus}
use Rattle.resp_errors.specs.declared.kinds.FrameFault.{FrameFault}
use Rattle.resp_errors.specs.declared.kinds.FrameFault.TheVariants.{NotInteger, NegativeLength}

-- one or more digits
abbrev pub is_digits : List ℕ → Bool
is_digits text = nat_lt 0 (length text) && list_all is_ascii_digit text

-- a sign, or none, and one or more digits
abbrev pub is_decimal : List ℕ → Bool
is_decimal text = is_digits (without_leading_sign text)

-- the value lies in 64 bits with a sign
abbrev pub fits_i64 : List ℕ → Bool
fits_i64 text = cond (starts_with_minus text)
    (nat_le (digits_value 10 (without_leading_sign text)) (2 ^ 63))
    (nat_lt (digits_value 10 (without_leading_sign text)) (2 ^ 63))

-- the number that the text writes, if it writes one
abbrev pub plain_number : List ℕ → Option ℤ
plain_number text =
    cond (is_decimal text && fits_i64 text) (Some (signed_digits_value 10 text)) None

-- the number that the text writes, if it writes one, white space around it aside
unfoldable pub number : List ℕ → Option ℤ
number text = plain_number (trim text)

-- the number of a line that must be one
abbrev pub integer_in : List ℕ → Result ℤ FrameFault
integer_in text = elim (number text) [ Some n ↦ Ok n | None ↦ Err NotInteger ]

-- a number that is a length: it isn't negative
abbrev pub as_length : ℤ → Result ℕ FrameFault
as_length (pos n) = Ok n
as_length (negsuc n) = Err NegativeLength

-- the length of a line that must be one
abbrev pub length_in : List ℕ → Result ℕ FrameFault
length_in text = elim (integer_in text) [ Ok n ↦ as_length n | Err f ↦ Err f ]

-- a text that writes a number of 63 bits, as digits alone do
pub record IsNumeral (text : List ℕ) (n : ℕ) : Type 0 where
  pub value : number text ≡ Some (pos n)
  pub small : n < 2 ^ 63
  pub text_is : IsUtf8 text

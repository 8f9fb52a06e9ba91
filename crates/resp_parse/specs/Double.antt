-- Double lines (RESP3, "Doubles").
use Rattle.std.specs.Prelude.{ℕ, ◌+◌, Bool, cond, ◌&&◌, ◌||◌, ◌==◌, ◌++◌, List, take, drop, position, codes, None, Some}
use Rattle.std.specs.Prelude.{Result, Ok, Err}
use Rattle.std.specs.Str.{trim, bytes_eq, str_to_ascii_lowercase}
use Rattle.std.specs.Str.Parse.{without_leading_sign}
use Rattle.resp_value.specs.declared.value.Value.{Value, Double}
use Rattle.resp_errors.specs.declared.kinds.FrameFault.{FrameFault}
use Rattle.resp_errors.specs.declared.kinds.FrameFault.TheVariants.{NotDouble}
use Rattle.resp_parse.specs.Number.{is_digits, is_decimal}

abbrev pub is_point : ℕ → Bool
is_point byte = byte == 46

abbrev pub is_e : ℕ → Bool
is_e byte = (byte == 101) || (byte == 69)

-- infinity or not a number, in any letter case
abbrev pub is_word : List ℕ → Bool
is_word text =
    let small = str_to_ascii_lowercase text in
    bytes_eq small (codes "inf") || bytes_eq small (codes "infinity")
    || bytes_eq small (codes "nan")

-- one or more digits, and perhaps a point before, among or after them
abbrev pub is_mantissa : List ℕ → Bool
is_mantissa text = elim (position is_point text) [
  | Some at ↦ is_digits (take at text ++ drop (at + 1) text)
  | None ↦ is_digits text
]

-- a mantissa, and perhaps an e and a decimal number with a sign or without one
abbrev pub is_scientific : List ℕ → Bool
is_scientific text = elim (position is_e text) [
  | Some at ↦ is_mantissa (take at text) && is_decimal (drop (at + 1) text)
  | None ↦ is_mantissa text
]

-- a sign, or none, and a word or a number
abbrev pub is_double : List ℕ → Bool
is_double text = is_word (without_leading_sign text) || is_scientific (without_leading_sign text)

-- the double of a line that must be one: the text without white space around it
unfoldable pub double_in : List ℕ → Result Value FrameFault
double_in text = cond (is_double (trim text)) (Ok (Double (trim text))) (Err NotDouble)

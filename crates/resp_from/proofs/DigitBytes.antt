-- Bytes that are digits.
use Rattle.std.proofs.Common.{ℕ, ◌<◌, ◌≤◌, ◌^◌, List, length, take, subst, arith}
use Rattle.std.proofs.lemmas.Grind.{common_steps}
use Rattle.std.proofs.lemmas.Int.Digits.{digits_value-lt}
use Rattle.std.proofs.lemmas.List.{take_all}
use Rattle.std.proofs.lemmas.Str.{IsUtf8-from_ascii}
use Rattle.std.proofs.lemmas.Fmt.{IsAscii-from_digits}
use Rattle.std.proofs.Math.Nat.{pow-le-pow_right}
use Rattle.std.specs.Str.{IsUtf8}
use Rattle.std.specs.Str.Parse.{AllDigits, digits_value}

pub digits_utf8 : (bytes : List ℕ) (at : ℕ) → length bytes ≤ at → AllDigits 10 (take at bytes) → IsUtf8 bytes
digits_utf8 bytes at all digits =
    IsUtf8-from_ascii bytes (IsAscii-from_digits bytes (subst (AllDigits 10) (take_all at bytes all) digits))

-- what up to 18 digits write
pub digits_small : (bytes : List ℕ) (at : ℕ) → length bytes ≤ 18 → AllDigits 10 (take at bytes)
    → digits_value 10 (take at bytes) < 10 ^ 18
digits_small bytes at few digits =
    let bound = digits_value-lt 10 (take at bytes) digits in
    let places : length (take at bytes) ≤ 18 = grind (arith, common_steps) in
    omega (arith, bound, pow-le-pow_right {n = 10} (omega arith) {i = length (take at bytes)} {j = 18} places)

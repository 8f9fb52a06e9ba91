-- What `parse` gives is the number that the text writes.
use Rattle.std.proofs.Common.{◌≡◌, ℕ, ◌≤◌, ◌^◌, ◌&&◌, Bool, true, false, cond, nat_le, nat_lt, List, length, Result, Ok}
use Rattle.std.proofs.Common.{Err, Some, None, ℤ, pos, refl, ap, arith, zero, suc, [], ◌∷◌}
use Rattle.std.proofs.lemmas.Bool.{and_parts, and_from, ltb-true, lt-ltb, leb-true, le-leb}
use Rattle.std.proofs.lemmas.Str.Parse.{numerals_by_value, tells_all_ascii_digits}
use Rattle.std.specs.Char.{is_ascii_digit}
use Rattle.std.specs.List.{list_all}
use Rattle.std.specs.Result.{OkIff, result_ok}
use Rattle.std.specs.Str.{all_ascii_digits}
use Rattle.std.specs.Str.Parse.{ParsesSigned, IsNumeral, without_leading_sign, signed_digits_value, digits_value}
use Rattle.std.specs.Str.Parse.{starts_with_minus}
use Rattle.std.specs.Int.{w64}
use Rattle.std.specs.Prelude.{neg_ℤ}
use mir.Val.{SFits}
use Rattle.resp_parse.specs.Number.{is_decimal, fits_i64, plain_number}

-- a test that decides when a result is this value
by_test : {E : Type 0} (r : Result ℤ E) (P : Type 0) (n : ℤ) (b : Bool) → OkIff r P n → (b ≡ true → P) → (P → b ≡ true)
    → result_ok r ≡ cond b (Some n) None
by_test (Ok m) P n true is to from = ap Some is.1
by_test (Ok m) P n false is to from = absurd (let e : false ≡ true = from is.0 in cc)
by_test (Err e) P n true is to from = absurd (is (to refl))
by_test (Err e) P n false is to from = refl

-- the bound on a number's size, with a minus before it or without one, is that of 64 bits with a sign
fits-from : (minus : Bool) (n : ℕ) → cond minus (nat_le n (2 ^ 63)) (nat_lt n (2 ^ 63)) ≡ true
    → SFits w64 (cond minus (neg_ℤ (pos n)) (pos n))
fits-from true zero h = record { sfits = omega arith }
fits-from true (suc n) h =
    let small : suc n ≤ 2 ^ 63 = leb-true (suc n) (2 ^ 63) h in record { sfits = omega (arith, small) }
fits-from false n h = record { sfits = ltb-true n (2 ^ 63) h }

fits-to : (minus : Bool) (n : ℕ) → SFits w64 (cond minus (neg_ℤ (pos n)) (pos n))
    → cond minus (nat_le n (2 ^ 63)) (nat_lt n (2 ^ 63)) ≡ true
fits-to true zero h = le-leb 0 (2 ^ 63) (omega arith)
fits-to true (suc n) h = le-leb (suc n) (2 ^ 63) (omega (arith, h.sfits))
fits-to false n h = lt-ltb n (2 ^ 63) h.sfits

digits-same : (text : List ℕ) → list_all is_ascii_digit text ≡ all_ascii_digits text
digits-same [] = refl
digits-same (b ∷ text) = ap (λ w. is_ascii_digit b && w) (digits-same text)

pub plain_number-from_parse : {E : Type 0} (text : List ℕ) (r : Result ℤ E) → ParsesSigned w64 10 text r → result_ok r
    ≡ plain_number text
plain_number-from_parse text r h =
    let digits = without_leading_sign text in
    let minus = starts_with_minus text in
    let same = digits-same digits in
    let numeral = numerals_by_value (λ ds. all_ascii_digits ds ≡ true) tells_all_ascii_digits in
    by_test r (IsNumeral 10 digits × SFits w64 (signed_digits_value 10 text)) (signed_digits_value 10 text)
    (is_decimal text && fits_i64 text) h
    (λ t. let p = and_parts (is_decimal text) (fits_i64 text) t in
    let q = and_parts (nat_lt 0 (length digits)) (list_all is_ascii_digit digits) p.0 in
    let all : all_ascii_digits digits ≡ true = cc in
    ((ltb-true 0 _ q.0, numeral.to _ all), fits-from minus (digits_value 10 digits) p.1))
    (λ p. let all : list_all is_ascii_digit digits ≡ true = let k = numeral.from _ p.0.1 in cc in
    and_from (is_decimal text) (fits_i64 text)
    (and_from (nat_lt 0 (length digits)) (list_all is_ascii_digit digits) (lt-ltb 0 _ p.0.0) all)
    (fits-to minus (digits_value 10 digits) p.1))

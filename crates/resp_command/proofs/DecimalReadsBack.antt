-- The number that a length's decimal text writes is the length.
use Rattle.std.proofs.Common.{◌≡◌, ℕ, ◌<◌, ◌^◌, ◌&&◌, ◌==◌, true, false, List, [], ◌∷◌, length, nat_lt, nat_le, Some}
use Rattle.std.proofs.Common.{pos, refl, ap, ◌∙◌, arith}
use Rattle.std.proofs.lemmas.Bool.Decides.{nat_tests}
use Rattle.std.proofs.lemmas.Bool.{and_parts, and_from, lt-ltb, leb-true}
use Rattle.std.proofs.lemmas.Fmt.{IsAscii-decimal, digits_decimal, digits_value-decimal, decimal_nonempty}
use Rattle.std.proofs.lemmas.Str.{encodes-IsAscii, chars-IsAscii}
use Rattle.std.proofs.lemmas.Str.Parse.{IsNumeralModel, numerals_by_value, tells_all_ascii_digits}
use Rattle.std.specs.Char.{is_ascii_digit, is_whitespace}
use Rattle.std.specs.Fmt.{decimal}
use Rattle.std.specs.List.{list_all}
use Rattle.std.specs.Str.{IsAscii, all_ascii_digits, chars, trim, trim_start, trim_end, skip_leading_whitespace}
use Rattle.std.specs.Str.{drop_trailing_whitespace, encode_utf8_all}
use Rattle.std.specs.Str.Parse.{digits_value, starts_with_minus, without_leading_plus}
use Rattle.resp_parse.specs.Number.{number, plain_number}

pub own : IsNumeralModel (λ ds. all_ascii_digits ds ≡ true) (digits_value 10)
own = numerals_by_value (λ ds. all_ascii_digits ds ≡ true) tells_all_ascii_digits

-- a digit is no white space
not_white : (c : ℕ) → is_ascii_digit c ≡ true → is_whitespace c ≡ false
not_white c h =
    let p = and_parts (nat_le 48 c) (nat_le c 57) h in
    let low = leb-true 48 c p.0 in
    let high = leb-true c 57 p.1 in
    grind (arith, nat_tests)

nothing_skipped : (ds : List ℕ) → all_ascii_digits ds ≡ true → skip_leading_whitespace ds ≡ ds
nothing_skipped [] h = refl
nothing_skipped (c ∷ cs) h = rw (not_white c (and_parts (is_ascii_digit c) (all_ascii_digits cs) h).0) refl

nothing_dropped : (ds : List ℕ) → all_ascii_digits ds ≡ true → drop_trailing_whitespace ds ≡ ds
nothing_dropped [] h = refl
nothing_dropped (c ∷ cs) h =
    let p = and_parts (is_ascii_digit c) (all_ascii_digits cs) h in
    rw (not_white c p.0) (ap (λ ws. c ∷ ws) (nothing_dropped cs p.1))

trim-digits : (ds : List ℕ) → IsAscii ds → all_ascii_digits ds ≡ true → trim ds ≡ ds
unfolding trim_start trim_end
trim-digits ds ascii h =
    let spelled = encodes-IsAscii ds ascii in
    let prefix : encode_utf8_all (skip_leading_whitespace (chars ds))
    ≡ ds = rw (chars-IsAscii ds ascii, nothing_skipped ds h) spelled in
    rw (prefix, chars-IsAscii ds ascii, nothing_dropped ds h) spelled

-- a digit is no sign
no_sign : (ds : List ℕ) → all_ascii_digits ds ≡ true → (starts_with_minus ds ≡ false) × (without_leading_plus ds ≡ ds)
no_sign [] h = (refl, refl)
no_sign (c ∷ cs) h =
    let p = and_parts (is_ascii_digit c) (all_ascii_digits cs) h in
    let q = and_parts (nat_le 48 c) (nat_le c 57) p.0 in
    let low = leb-true 48 c q.0 in
    let minus : (c == 45) ≡ false = grind (arith, nat_tests) in
    let plus : (c == 43) ≡ false = grind (arith, nat_tests) in
    (minus, rw (plus) refl)

digits-same : (ds : List ℕ) → list_all is_ascii_digit ds ≡ all_ascii_digits ds
digits-same [] = refl
digits-same (c ∷ cs) = ap (λ rest. is_ascii_digit c && rest) (digits-same cs)

plain_number-digits : (ds : List ℕ) (n : ℕ) → all_ascii_digits ds ≡ true → 0 < length ds → digits_value 10 ds ≡ n
    → n < 2 ^ 63 → plain_number ds ≡ Some (pos n)
plain_number-digits ds n h some value small =
    let s = no_sign ds h in
    let tests = and_from (nat_lt 0 (length ds)) (list_all is_ascii_digit ds) (lt-ltb 0 (length ds) some)
    (digits-same ds ∙ h) in
    let fits : nat_lt n (2 ^ 63) ≡ true = lt-ltb n (2 ^ 63) small in
    rw (s.0, s.1, tests, value, fits) refl

pub number-decimal : (n : ℕ) → n < 2 ^ 63 → number (decimal n) ≡ Some (pos n)
unfolding number
number-decimal n small =
    let wide : n < 2 ^ 64 = omega arith in
    let h = digits_decimal own n wide in
    rw (trim-digits (decimal n) (IsAscii-decimal n wide) h)
    (plain_number-digits (decimal n) n h (decimal_nonempty n wide) (digits_value-decimal own n wide) small)

-- The number that an integer's decimal text writes is the integer; a length's too.
use Rattle.std.proofs.Common.{◌≡◌, ℕ, zero, suc, ◌<◌, ◌≤◌, ◌^◌, ◌&&◌, Bool, true, false, nat_lt, nat_le, List, [], ◌∷◌}
use Rattle.std.proofs.Common.{length, All, Option, Some, None, Result, Ok, Err, ℤ, pos, negsuc, cond, refl, ap, subst}
use Rattle.std.proofs.Common.{◌∙◌, arith}
use Rattle.std.proofs.lemmas.Bool.{and_parts, and_from, lt-ltb, ltb-true, leb-true, le-leb}
use Rattle.std.proofs.lemmas.Bool.Decides.{nat_tests}
use Rattle.std.proofs.lemmas.Fmt.{digits_decimal, digits_value-decimal, decimal_nonempty}
use Rattle.std.proofs.lemmas.Str.{IsUtf8-from_ascii, encodes-IsAscii, chars-IsAscii}
use Rattle.std.proofs.lemmas.Str.Ascii.{IsAscii-from_all}
use Rattle.std.proofs.lemmas.Str.Parse.{IsNumeralModel, numerals_by_value, tells_all_ascii_digits}
use Rattle.std.specs.Char.{is_ascii_digit, is_whitespace}
use Rattle.std.specs.Fmt.{decimal, signed_decimal}
use Rattle.std.specs.List.{list_all}
use Rattle.std.specs.Str.{IsAscii, IsUtf8, all_ascii_digits, trim, trim_start, trim_end, skip_leading_whitespace}
use Rattle.std.specs.Str.{drop_trailing_whitespace, encode_utf8_all}
use Rattle.std.specs.Str.Parse.{digits_value, starts_with_minus, without_leading_sign, signed_digits_value}
use Rattle.resp_parse.specs.Lines.{NoBreak}
use Rattle.std.specs.Prelude.{neg_ℤ}
use Rattle.resp_errors.specs.declared.kinds.FrameFault.{FrameFault}
use Rattle.resp_errors.specs.declared.kinds.FrameFault.TheVariants.{NotInteger}
use Rattle.resp_parse.specs.Number.{is_decimal, fits_i64, number, plain_number, integer_in, as_length, length_in}
use Rattle.resp_parse.proofs.FewDigits.{number-digits}
use Rattle.resp_encode.specs.Encoding as encoding

-- a graphic character of ASCII
abbrev pub is_graphic : ℕ → Bool
is_graphic c = nat_lt 32 c && nat_lt c 127

abbrev pub Graphic : List ℕ → Type 0
Graphic text = list_all is_graphic text ≡ true

graphic-range : (c : ℕ) → is_graphic c ≡ true → (32 < c) × (c < 127)
graphic-range c e = let p = and_parts (nat_lt 32 c) (nat_lt c 127) e in (ltb-true 32 c p.0, ltb-true c 127 p.1)

not_white : (c : ℕ) → is_graphic c ≡ true → is_whitespace c ≡ false
not_white c e = let r = graphic-range c e in let low = r.0 in let high = r.1 in grind (arith, nat_tests)

ascii : (text : List ℕ) → Graphic text → All (λ b. b < 128) text
ascii [] h k d l = absurd (omega arith)
ascii (c ∷ text) h zero d l = let p = and_parts (is_graphic c) (list_all is_graphic text) h in
    let r = graphic-range c p.0 in omega (arith, r.1)
ascii (c ∷ text) h (suc k) d l = let p = and_parts (is_graphic c) (list_all is_graphic text) h in
    ascii text p.1 k d (omega arith)

skipped : (text : List ℕ) → Graphic text → skip_leading_whitespace text ≡ text
skipped [] h = refl
skipped (c ∷ text) h = let p = and_parts (is_graphic c) (list_all is_graphic text) h in rw (not_white c p.0) refl

kept : (text : List ℕ) → Graphic text → drop_trailing_whitespace text ≡ text
kept [] h = refl
kept (c ∷ text) h = let p = and_parts (is_graphic c) (list_all is_graphic text) h in
    rw (not_white c p.0) (ap (λ x. c ∷ x) (kept text p.1))

pub trim-graphic : (text : List ℕ) → Graphic text → trim text ≡ text
unfolding trim_start trim_end
trim-graphic text h =
    let a : IsAscii text = IsAscii-from_all text (ascii text h) in
    let s : trim_start text ≡ text = ap (λ x. encode_utf8_all (skip_leading_whitespace x)) (chars-IsAscii text a)
    ∙ ap encode_utf8_all (skipped text h) ∙ encodes-IsAscii text a in
    let e : trim_end text ≡ text = ap (λ x. encode_utf8_all (drop_trailing_whitespace x)) (chars-IsAscii text a)
    ∙ ap encode_utf8_all (kept text h) ∙ encodes-IsAscii text a in
    ap trim_end s ∙ e

pub utf8-graphic : (text : List ℕ) → Graphic text → IsUtf8 text
utf8-graphic text h = IsUtf8-from_ascii text (IsAscii-from_all text (ascii text h))

pub unbroken-graphic : (text : List ℕ) → Graphic text → NoBreak text
unbroken-graphic [] h [] y e = cc
unbroken-graphic [] h (x ∷ xs) y e = cc
unbroken-graphic (c ∷ cs) h [] y e =
    let same : c ≡ 13 = cc in
    let r = graphic-range c (and_parts (is_graphic c) (list_all is_graphic cs) h).0 in
    let low : 32 < c = r.0 in
    omega arith
unbroken-graphic (c ∷ cs) h (x ∷ xs) y e = unbroken-graphic cs (and_parts (is_graphic c) (list_all is_graphic cs) h).1
    xs y (cc)

-- ---- digits

own : IsNumeralModel (λ ds. all_ascii_digits ds ≡ true) (digits_value 10)
own = numerals_by_value (λ ds. all_ascii_digits ds ≡ true) tells_all_ascii_digits

digits-same : (ds : List ℕ) → list_all is_ascii_digit ds ≡ all_ascii_digits ds
digits-same [] = refl
digits-same (c ∷ cs) = ap (λ rest. is_ascii_digit c && rest) (digits-same cs)

digit-graphic : (c : ℕ) → is_ascii_digit c ≡ true → is_graphic c ≡ true
digit-graphic c e =
    let p = and_parts (nat_le 48 c) (nat_le c 57) e in
    let low = leb-true 48 c p.0 in
    let high = leb-true c 57 p.1 in
    and_from (nat_lt 32 c) (nat_lt c 127) (lt-ltb 32 c (omega arith)) (lt-ltb c 127 (omega arith))

pub digits-graphic : (ds : List ℕ) → list_all is_ascii_digit ds ≡ true → Graphic ds
digits-graphic [] h = refl
digits-graphic (c ∷ cs) h = let p = and_parts (is_ascii_digit c) (list_all is_ascii_digit cs) h in
    and_from (is_graphic c) (list_all is_graphic cs) (digit-graphic c p.0) (digits-graphic cs p.1)

decimal-digits : (n : ℕ) → n < 2 ^ 64 → list_all is_ascii_digit (decimal n) ≡ true
decimal-digits n wide = digits-same (decimal n) ∙ digits_decimal own n wide

pub decimal-graphic : (n : ℕ) → n < 2 ^ 64 → Graphic (decimal n)
decimal-graphic n wide = digits-graphic (decimal n) (decimal-digits n wide)

pub number-decimal : (n : ℕ) → n < 2 ^ 63 → number (decimal n) ≡ Some (pos n)
number-decimal n small =
    let wide : n < 2 ^ 64 = omega arith in
    let v = digits_value-decimal own n wide in
    number-digits (decimal n) (decimal_nonempty n wide) (decimal-digits n wide) (rw v small) ∙ ap (λ k. Some (pos k)) v

-- a minus and digits
number-minus : (n : ℕ) → n < 2 ^ 63 → number (45 ∷ decimal (suc n)) ≡ Some (negsuc n)
unfolding number
number-minus n small =
    let wide : suc n < 2 ^ 64 = omega arith in
    let ds = decimal (suc n) in
    let g : Graphic (45 ∷ ds) = decimal-graphic (suc n) wide in
    let v = digits_value-decimal own (suc n) wide in
    let d : is_decimal (45 ∷ ds) ≡ true = and_from (nat_lt 0 (length ds)) (list_all is_ascii_digit ds)
    (lt-ltb 0 (length ds) (decimal_nonempty (suc n) wide)) (decimal-digits (suc n) wide) in
    let f : fits_i64 (45 ∷ ds) ≡ true = rw v (le-leb (suc n) (2 ^ 63) (omega arith)) in
    let s : signed_digits_value 10 (45 ∷ ds) ≡ negsuc n = rw v refl in
    ap plain_number (trim-graphic (45 ∷ ds) g) ∙ rw (d, f) (ap Some s)

pub number-signed : (n : ℤ) → encoding.fits_i64 n ≡ true → number (signed_decimal n) ≡ Some n
number-signed (pos n) h = number-decimal n (ltb-true n (2 ^ 63) h)
number-signed (negsuc n) h = number-minus n (ltb-true n (2 ^ 63) h)

pub signed-graphic : (n : ℤ) → encoding.fits_i64 n ≡ true → Graphic (signed_decimal n)
signed-graphic (pos n) h = decimal-graphic n (let s = ltb-true n (2 ^ 63) h in omega arith)
signed-graphic (negsuc n) h = decimal-graphic (suc n) (let s = ltb-true n (2 ^ 63) h in omega arith)

-- ---- what a line writes fits

fits-number : (minus : Bool) (n : ℕ) → cond minus (nat_le n (2 ^ 63)) (nat_lt n (2 ^ 63)) ≡ true
    → encoding.fits_i64 (cond minus (neg_ℤ (pos n)) (pos n)) ≡ true
fits-number true zero h = refl
fits-number true (suc n) h = let small : suc n ≤ 2 ^ 63 = leb-true (suc n) (2 ^ 63) h in
    lt-ltb n (2 ^ 63) (omega (arith, small))
fits-number false n h = h

plain-fits : (text : List ℕ) (n : ℤ) → plain_number text ≡ Some n → encoding.fits_i64 n ≡ true
plain-fits text n e = by (is_decimal text && fits_i64 text) refl e
  where
    by : (b : Bool) → (is_decimal text && fits_i64 text) ≡ b → cond b (Some (signed_digits_value 10 text)) None ≡ Some n
        → encoding.fits_i64 n ≡ true
    by true h i =
        let z : signed_digits_value 10 text ≡ n = cc in
        let p = and_parts (is_decimal text) (fits_i64 text) h in
        subst (λ k. encoding.fits_i64 k ≡ true) z
        (fits-number (starts_with_minus text) (digits_value 10 (without_leading_sign text)) p.1)
    by false h i = absurd (cc)

pub integer-fits : (text : List ℕ) (n : ℤ) → integer_in text ≡ Ok n → encoding.fits_i64 n ≡ true
unfolding number
integer-fits text n e = by (number text) refl e
  where
    by : (o : Option ℤ) → number text ≡ o → (elim o as (λ _. Result ℤ FrameFault)
        [ Some k ↦ Ok k | None ↦ Err NotInteger ]) ≡ Ok n → encoding.fits_i64 n ≡ true
    by (Some k) h i = let z : k ≡ n = cc in subst (λ k. encoding.fits_i64 k ≡ true) z (plain-fits (trim text) k h)
    by None h i = absurd (cc)

pub length-fits : (text : List ℕ) (n : ℕ) → length_in text ≡ Ok n → n < 2 ^ 63
length-fits text n e = by (integer_in text) refl e
  where
    by : (r : Result ℤ FrameFault) → integer_in text ≡ r
        → (elim r as (λ _. Result ℕ FrameFault) [ Ok k ↦ as_length k | Err f ↦ Err f ]) ≡ Ok n → n < 2 ^ 63
    by (Ok (pos k)) h i = let z : k ≡ n = cc in rw (← z) (ltb-true k (2 ^ 63) (integer-fits text (pos k) h))
    by (Ok (negsuc k)) h i = absurd (cc)
    by (Err f) h i = absurd (cc)

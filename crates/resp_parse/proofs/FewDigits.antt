-- A text of digits alone writes the number of its digits.
use Rattle.std.proofs.Common.{◌≡◌, ℕ, zero, suc, ◌+◌, ◌-◌, ◌<◌, ◌≤◌, ◌^◌, ◌==◌, Bool, true, false, nat_lt, List, []}
use Rattle.std.proofs.Common.{◌∷◌, length, take, get_or, All, refl, ap, sym, ◌∙◌, arith, Some, pos}
use Rattle.std.proofs.lemmas.Bool.{and_parts, and_from, ltb-true, lt-ltb}
use Rattle.std.proofs.lemmas.Bool.Decides.{nat_tests}
use Rattle.std.proofs.lemmas.Grind.{common_steps}
use Rattle.std.proofs.lemmas.Str.{IsUtf8-from_ascii, chars-IsAscii, encodes-IsAscii}
use Rattle.std.proofs.lemmas.Str.Ascii.{IsAscii-from_all}
use Rattle.std.specs.Char.{is_ascii_digit, is_whitespace, digit_value}
use Rattle.std.specs.List.{list_all}
use Rattle.std.specs.Str.{IsAscii, encode_utf8_all, skip_leading_whitespace, drop_trailing_whitespace, trim_start}
use Rattle.std.specs.Str.{trim_end, trim}
use Rattle.std.specs.Str.Parse.{without_leading_plus, without_leading_sign, signed_digits_value, digits_value}
use Rattle.std.specs.Str.Parse.{starts_with_minus}
use Rattle.resp_errors.proofs.Digits.{digit_range}
use Rattle.resp_parse.specs.Lines.{NoneBefore}
use Rattle.resp_parse.specs.Number.{is_digits, is_decimal, fits_i64, plain_number, number, IsNumeral}
use Rattle.resp_parse.proofs.ByteTests.{eq_false}

abbrev pub Digits : List ℕ → Type 0
Digits text = list_all is_ascii_digit text ≡ true

pub digits-before : (text : List ℕ) (at : ℕ) → at ≤ length text
    → ((k : ℕ) → k < at → is_ascii_digit (get_or text k 0) ≡ true) → Digits (take at text)
digits-before [] zero l h = refl
digits-before [] (suc at) l h = absurd (omega arith)
digits-before (c ∷ text) zero l h = refl
digits-before (c ∷ text) (suc at) l h = and_from (is_ascii_digit c) (list_all is_ascii_digit (take at text))
    (h 0 (omega arith)) (digits-before text at (omega arith) (λ k m. h (suc k) (omega arith)))

pub digit-value : (c : ℕ) → is_ascii_digit c ≡ true → digit_value c ≡ c - 48
digit-value c e = let r = digit_range c e in grind (arith, nat_tests)

ascii-digits : (text : List ℕ) → Digits text → All (λ b. b < 128) text
ascii-digits [] h k d l = absurd (omega arith)
ascii-digits (c ∷ text) h zero d l =
    let p = and_parts (is_ascii_digit c) (list_all is_ascii_digit text) h in
    let r = digit_range c p.0 in omega (arith, r.1)
ascii-digits (c ∷ text) h (suc k) d l =
    let p = and_parts (is_ascii_digit c) (list_all is_ascii_digit text) h in ascii-digits text p.1 k d (omega arith)

not_white : (c : ℕ) → is_ascii_digit c ≡ true → is_whitespace c ≡ false
not_white c e = let r = digit_range c e in grind (arith, nat_tests)

skipped : (text : List ℕ) → Digits text → skip_leading_whitespace text ≡ text
skipped [] h = refl
skipped (c ∷ text) h =
    let p = and_parts (is_ascii_digit c) (list_all is_ascii_digit text) h in rw (not_white c p.0) refl

kept : (text : List ℕ) → Digits text → drop_trailing_whitespace text ≡ text
kept [] h = refl
kept (c ∷ text) h =
    let p = and_parts (is_ascii_digit c) (list_all is_ascii_digit text) h in
    rw (not_white c p.0) (ap (λ x. c ∷ x) (kept text p.1))

trim-digits : (text : List ℕ) → Digits text → trim text ≡ text
unfolding trim_start trim_end
trim-digits text h =
    let a : IsAscii text = IsAscii-from_all text (ascii-digits text h) in
    let s : trim_start text ≡ text = ap (λ x. encode_utf8_all (skip_leading_whitespace x)) (chars-IsAscii text a)
    ∙ ap encode_utf8_all (skipped text h) ∙ encodes-IsAscii text a in
    let e : trim_end text ≡ text = ap (λ x. encode_utf8_all (drop_trailing_whitespace x)) (chars-IsAscii text a)
    ∙ ap encode_utf8_all (kept text h) ∙ encodes-IsAscii text a in
    ap trim_end s ∙ e

no_minus : (c : ℕ) (text : List ℕ) → is_ascii_digit c ≡ true → starts_with_minus (c ∷ text) ≡ false
no_minus c text e = let r = digit_range c e in eq_false c 45 (λ k. absurd (omega (arith, k, r.0)))

no_plus : (c : ℕ) (text : List ℕ) → is_ascii_digit c ≡ true → without_leading_plus (c ∷ text) ≡ c ∷ text
no_plus c text e =
    let r = digit_range c e in
    let n : (c == 43) ≡ false = eq_false c 43 (λ k. absurd (omega (arith, k, r.0))) in rw n refl

no_sign : (c : ℕ) (text : List ℕ) → is_ascii_digit c ≡ true → without_leading_sign (c ∷ text) ≡ c ∷ text
no_sign c text e = rw (no_minus c text e) (no_plus c text e)

pub number-digits : (text : List ℕ) → 0 < length text → Digits text → digits_value 10 text < 2 ^ 63 → number text
    ≡ Some (pos (digits_value 10 text))
unfolding number
number-digits [] l h b = absurd (omega arith)
number-digits (c ∷ text) l h b =
    let p = and_parts (is_ascii_digit c) (list_all is_ascii_digit text) h in
    let d : is_decimal (c ∷ text) ≡ true = ap is_digits (no_sign c text p.0)
    ∙ and_from (nat_lt 0 (length (c ∷ text))) (list_all is_ascii_digit (c ∷ text)) (lt-ltb 0 (length (c ∷ text)) l)
    h in
    let f : fits_i64 (c ∷ text) ≡ true = rw (no_minus c text p.0, no_plus c text p.0)
    (lt-ltb (digits_value 10 (c ∷ text)) (2 ^ 63) b) in
    let v : signed_digits_value 10 (c ∷ text)
    ≡ pos (digits_value 10 (c ∷ text)) = rw (no_minus c text p.0, no_plus c text p.0) refl in
    ap plain_number (trim-digits (c ∷ text) h) ∙ rw (d, f) (ap Some v)

-- one digit more
pub digit-next : (text : List ℕ) (at : ℕ) → is_ascii_digit (get_or text at 0) ≡ true
    → ((k : ℕ) → k < at → is_ascii_digit (get_or text k 0) ≡ true) → (k : ℕ) → k < at + 1
    → is_ascii_digit (get_or text k 0) ≡ true
digit-next text at d h k l = by_place (nat_lt k at) refl
  where
    by_place : (b : Bool) → nat_lt k at ≡ b → is_ascii_digit (get_or text k 0) ≡ true
    by_place true e = h k (ltb-true k at e)
    by_place false e =
        let same : k ≡ at = grind (arith, nat_tests) in ap (λ j. is_ascii_digit (get_or text j 0)) same ∙ d

-- no CR stands among digits
pub none_in-digits : (text : List ℕ) (at : ℕ) → ((k : ℕ) → k < at → is_ascii_digit (get_or text k 0) ≡ true)
    → NoneBefore text (at + 1)
none_in-digits text at digits k l cr lf =
    let r = digit_range (get_or text k 0) (digits k (omega arith)) in absurd (omega (arith, r.0, cr))

-- so many first bytes are digits
module _ (text : List ℕ) (at : ℕ) (some : 1 ≤ at) (within : at ≤ length text)
    (digits : (k : ℕ) → k < at → is_ascii_digit (get_or text k 0) ≡ true) where
  before : Digits (take at text)
  before = digits-before text at within digits

  taken : length (take at text) ≡ at
  taken = grind (arith, common_steps)

  pub numeral-of : (value : ℕ) → value ≡ digits_value 10 (take at text) → value < 2 ^ 63
      → IsNumeral (take at text) value
  numeral-of value v b = record {
    value = number-digits (take at text) (omega (arith, taken, some)) before (omega (arith, v, b))
        ∙ ap (λ x. Some (pos x)) (sym v);
    small = b;
    text_is = IsUtf8-from_ascii (take at text) (IsAscii-from_all (take at text) (ascii-digits (take at text) before));
  }

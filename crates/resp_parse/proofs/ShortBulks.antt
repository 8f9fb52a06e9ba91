-- Lines of one digit or two, and bulk strings of such a length.
use Rattle.std.proofs.Common.{◌≡◌, ℕ, suc, ◌+◌, ◌-◌, ◌*◌, ◌<◌, ◌≤◌, ◌^◌, true, List, length, take, drop, get_or}
use Rattle.std.proofs.Common.{subst, arith, Some}
use Rattle.std.proofs.lemmas.Int.Digits.{digits_value_more}
use Rattle.std.specs.Char.{is_ascii_digit}
use Rattle.std.specs.Str.Parse.{digits_value}
use Rattle.resp_errors.proofs.Digits.{digit_range}
use Rattle.resp_parse.specs.Number.{IsNumeral}
use Rattle.resp_parse.specs.Resume.{FindsLine, BeginsWithBody, IsShortBulk}
use Rattle.resp_parse.proofs.FewDigits.{digit-value, digit-next, none_in-digits, numeral-of}
use Rattle.resp_parse.proofs.LineAt.{line-at}

-- the first `at` bytes are digits that write n, and CR LF comes after them
short : (bs : List ℕ) (at n : ℕ) → 1 ≤ at → ((k : ℕ) → k < at → is_ascii_digit (get_or bs k 0) ≡ true) → n
    ≡ digits_value 10 (take at bs) → n < 2 ^ 63 → at + 1 < length bs → get_or bs at 0 ≡ 13 → get_or bs (at + 1) 0 ≡ 10
    → FindsLine bs (Some at) × IsNumeral (take at bs) n
short bs at n some digits value small within cr lf =
    let e : (at + 1) - 1 ≡ at = omega arith in
    let cr' : get_or bs ((at + 1) - 1) 0 ≡ 13 = rw e cr in
    let found = line-at bs (at + 1) (omega arith) (none_in-digits bs at digits) within cr' lf in
    (subst (λ k. FindsLine bs (Some k)) e found, numeral-of bs at some (omega arith) digits n value small)

-- and after that the body of a bulk string, of n bytes, and its CR LF
bulk-of : (bs : List ℕ) (at n : ℕ) → FindsLine bs (Some at) × IsNumeral (take at bs) n → get_or bs at 0 ≡ 13
    → get_or bs (suc at) 0 ≡ 10 → (body : List ℕ) → BeginsWithBody n (drop (at + 2) bs) body → IsShortBulk bs at body
bulk-of bs at n found cr lf body b = record {
  line = found.0;
  lf = lf;
  cr = cr;
  number = rw b.size found.1;
  begins = rw b.size b;
}

module _ (bs : List ℕ) (first : is_ascii_digit (get_or bs 0 0) ≡ true) where
  none : (k : ℕ) → k < 0 → is_ascii_digit (get_or bs k 0) ≡ true
  none k l = absurd (omega arith)

  one : (k : ℕ) → k < 1 → is_ascii_digit (get_or bs k 0) ≡ true
  one k l = digit-next bs 0 first none k l

  one-value : 0 < length bs → get_or bs 0 0 - 48 ≡ digits_value 10 (take 1 bs)
  one-value l = omega (arith, digits_value_more 10 bs 0 l, digit-value (get_or bs 0 0) first)

  pub line-of-one : 2 < length bs → get_or bs 1 0 ≡ 13 → get_or bs 2 0 ≡ 10
      → FindsLine bs (Some 1) × IsNumeral (take 1 bs) (get_or bs 0 0 - 48)
  line-of-one l cr lf =
      let r = digit_range (get_or bs 0 0) first in
      short bs 1 (get_or bs 0 0 - 48) (omega arith) one (one-value (omega arith)) (omega (arith, r.1)) l cr lf

  pub line-of-two : is_ascii_digit (get_or bs 1 0) ≡ true → 3 < length bs → get_or bs 2 0 ≡ 13 → get_or bs 3 0 ≡ 10
      → FindsLine bs (Some 2) × IsNumeral (take 2 bs) ((get_or bs 0 0 - 48) * 10 + (get_or bs 1 0 - 48))
  line-of-two second l cr lf =
      let r = digit_range (get_or bs 0 0) first in
      let s = digit_range (get_or bs 1 0) second in
      let n = (get_or bs 0 0 - 48) * 10 + (get_or bs 1 0 - 48) in
      let value : n ≡ digits_value 10 (take 2 bs) = omega
      (arith, digits_value_more 10 bs 1 (omega arith), one-value (omega arith), digit-value (get_or bs 1 0) second) in
      short bs 2 n (omega arith) (λ k m. digit-next bs 1 second one k m) value (omega (arith, r.1, s.1)) l cr lf

  pub one-digit : 2 < length bs → get_or bs 1 0 ≡ 13 → get_or bs 2 0 ≡ 10 → (body : List ℕ)
      → BeginsWithBody (get_or bs 0 0 - 48) (drop 3 bs) body → IsShortBulk bs 1 body
  one-digit l cr lf body b = bulk-of bs 1 (get_or bs 0 0 - 48) (line-of-one l cr lf) cr lf body b

  pub two-digits : is_ascii_digit (get_or bs 1 0) ≡ true → 3 < length bs → get_or bs 2 0 ≡ 13 → get_or bs 3 0 ≡ 10
      → (body : List ℕ) → BeginsWithBody ((get_or bs 0 0 - 48) * 10 + (get_or bs 1 0 - 48)) (drop 4 bs) body
      → IsShortBulk bs 2 body
  two-digits second l cr lf body b =
      bulk-of bs 2 ((get_or bs 0 0 - 48) * 10 + (get_or bs 1 0 - 48)) (line-of-two second l cr lf) cr lf body b

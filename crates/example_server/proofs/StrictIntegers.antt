-- The integer that bytes write.
use Rattle.std.proofs.Common.{◌≡◌, ◌<◌, ◌≤◌, ◌&&◌, zero, suc, pos, nat_le, nat_lt, ◌^◌, ℕ, ℤ, List, Bool, true, false}
use Rattle.std.proofs.Common.{cond, Option, Some, None, Result, refl, ap, subst, arith}
use Rattle.std.proofs.lemmas.Fmt.{IsAscii-signed}
use Rattle.std.proofs.lemmas.Slice.Eq.{bytes_eq-Decides}
use Rattle.std.proofs.lemmas.Str.{IsUtf8-from_ascii}
use Rattle.std.specs.Fmt.{signed_decimal}
use Rattle.std.specs.Int.{w64}
use Rattle.std.specs.Int.Signed.{mag}
use Rattle.std.specs.Result.{result_ok}
use Rattle.std.specs.Str.{IsUtf8, bytes_eq}
use Rattle.std.specs.Str.Parse.{ParsesSigned, without_leading_sign, signed_digits_value, digits_value}
use Rattle.std.specs.Str.Parse.{starts_with_minus}
use Rattle.std.specs.Prelude.{neg_ℤ}
use Rattle.std.proofs.lemmas.Bool.{leb-true, ltb-true}
use Rattle.resp_parse.specs.Number.{plain_number, is_decimal, fits_i64}
use Rattle.example_server.specs.Integers.{integer, written_back}
use Rattle.resp_parse.proofs.Numerals.{plain_number-from_parse}
use mir.Val.{SFits}

-- the bound on a number's size, with a minus before it or without one, is that of 64 bits with a sign
fits-from : (minus : Bool) (n : ℕ) → cond minus (nat_le n (2 ^ 63)) (nat_lt n (2 ^ 63)) ≡ true
    → SFits w64 (cond minus (neg_ℤ (pos n)) (pos n))
fits-from true zero h = record { sfits = omega arith }
fits-from true (suc n) h = let small : suc n ≤ 2 ^ 63 = leb-true (suc n) (2 ^ 63) h in record {
  sfits = omega
      (arith, small);
}
fits-from false n h = record { sfits = ltb-true n (2 ^ 63) h }

held : (b c : Bool) (v n : ℤ) → cond (b && c) (Some v) None ≡ Some n → (c ≡ true) × (v ≡ n)
held true true v n h = (refl, cc)
held true false v n h = absurd (cc)
held false c v n h = absurd (cc)

-- a number that a text writes has 64 bits with a sign
pub fits-from_number : (text : List ℕ) (n : ℤ) → plain_number text ≡ Some n → SFits w64 n
fits-from_number text n h =
    let p = held (is_decimal text) (fits_i64 text) (signed_digits_value 10 text) n h in
    subst (SFits w64) p.1 (fits-from (starts_with_minus text) (digits_value 10 (without_leading_sign text)) p.0)

small : (n : ℤ) → SFits w64 n → mag n < 2 ^ 63
small n fits = fits.sfits

-- what the server writes for a number is text
number-IsUtf8 : (bytes : List ℕ) (n : ℤ) → plain_number bytes ≡ Some n → bytes_eq (signed_decimal n) bytes ≡ true
    → IsUtf8 bytes
number-IsUtf8 bytes n is same =
    let e : signed_decimal n ≡ bytes = grind (arith, bytes_eq-Decides (signed_decimal n) bytes) in
    subst IsUtf8 e (IsUtf8-from_ascii _ (IsAscii-signed n (small n (fits-from_number bytes n is))))

-- what is no text writes no integer
pub no_text : (bytes : List ℕ) → (IsUtf8 bytes → ⊥) → None ≡ integer bytes
no_text bytes not_text = by_number (plain_number bytes) refl
  where
    by_same : (n : ℤ) (b : Bool) → plain_number bytes ≡ Some n → bytes_eq (signed_decimal n) bytes ≡ b
        → None ≡ cond b (Some n) None
    by_same n true p q = absurd (not_text (number-IsUtf8 bytes n p q))
    by_same n false p q = refl

    by_number : (o : Option ℤ) → plain_number bytes ≡ o → None ≡ written_back bytes o
    by_number None p = refl
    by_number (Some n) p = by_same n (bytes_eq (signed_decimal n) bytes) p refl

-- what was parsed is the integer, where it is written back
pub parsed : {E : Type 0} (bytes : List ℕ) (r : Result ℤ E) → ParsesSigned w64 10 bytes r
    → written_back bytes (result_ok r) ≡ integer bytes
parsed bytes r h = ap (written_back bytes) (plain_number-from_parse bytes r h)

-- Lemmas: digits without a sign write the number that they are.
use Rattle.std.specs.Prelude.{◌≡◌, ℕ, ◌==◌, ◌≤◌, ℤ, pos, negsuc, false, cond, neg_ℤ, List, drop}
use Rattle.std.specs.Int.{Width}
use Rattle.std.specs.Str.Parse.{IsNumeral, digits_value, signed_digits_value, starts_with_minus, without_leading_plus}
use Rattle.std.specs.Str.Parse.{without_leading_sign}
use Rattle.std.proofs.Common.{sym, ap, ◌∙◌, subst, get_or}
use Rattle.std.proofs.lemmas.Bool.{true≢false, ne_eqb, le-leb}
use Rattle.std.proofs.lemmas.Str.Parse.{digit_at}
use Rattle.resp_from.specs.Integers.{SignedNumber, SignedText, UnsignedNumber, UnsignedText}

-- digits begin with no byte below that of `0`
begins_otherwise : (text : List ℕ) (c : ℕ) → IsNumeral 10 text → (48 ≤ c → ⊥) → (get_or text 0 0 == c) ≡ false
begins_otherwise text c digits below =
    ne_eqb (get_or text 0 0) c (λ same. below (subst (λ n. 48 ≤ n) same (digit_at text 0 digits.1 digits.0).0))

no_minus : (text : List ℕ) → IsNumeral 10 text → starts_with_minus text ≡ false
no_minus text digits = begins_otherwise text 45 digits (λ l. true≢false (sym (le-leb 48 45 l)))

no_plus : (text : List ℕ) → IsNumeral 10 text → without_leading_plus text ≡ text
no_plus text digits =
    ap (λ b. drop (cond b 1 0) text) (begins_otherwise text 43 digits (λ l. true≢false (sym (le-leb 48 43 l))))

no_sign : (text : List ℕ) → IsNumeral 10 text → without_leading_sign text ≡ text
no_sign text digits =
    ap (λ b. cond b (drop 1 text) (without_leading_plus text)) (no_minus text digits) ∙ no_plus text digits

signed_value : (text : List ℕ) → IsNumeral 10 text → signed_digits_value 10 text ≡ pos (digits_value 10 text)
signed_value text digits =
    let value : List ℕ → ℤ = λ ds. pos (digits_value 10 ds) in
    ap (λ b. cond b (neg_ℤ (value (without_leading_sign text))) (value (without_leading_sign text)))
    (no_minus text digits) ∙ ap value (no_sign text digits)

pub signed_numerals : (w : Width) (text : List ℕ) (x : ℤ) → IsNumeral 10 text
    → SignedNumber w (pos (digits_value 10 text)) x → SignedText w text x
signed_numerals w text x digits fits = (
  subst (IsNumeral 10) (sym (no_sign text digits)) digits,
  subst (λ n. SignedNumber w n x)
      (sym (signed_value text digits)) fits,
)

abbrev absolute : ℤ → ℕ
absolute (pos n) = n
absolute (negsuc n) = n

pub unsigned_numerals : (k : ℕ) (text : List ℕ) (x : ℕ) → IsNumeral 10 text
    → UnsignedNumber k (pos (digits_value 10 text)) x → UnsignedText k text x
unsigned_numerals k text x digits fits = (
  subst (IsNumeral 10) (sym (no_plus text digits)) digits,
  fits.0,
  sym (ap absolute fits.1) ∙ ap (digits_value 10)
      (sym (no_plus text digits)),
)

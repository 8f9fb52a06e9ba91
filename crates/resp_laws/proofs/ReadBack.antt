-- A scalar converts back from the one argument that it gives.
use Rattle.std.proofs.Common.{◌≡◌, ◌<◌, ◌^◌, ◌+◌, ℕ, ℤ, pos, negsuc, zero, suc, Bool, true, false, cond, drop, List, []}
use Rattle.std.proofs.Common.{◌∷◌, map, String, Vec, string_bytes, refl, sym, ap, ◌∙◌, subst, arith, rules}
use borrow.Author.Tests.{ne_eqb}
use lib.IntN.{neg_ℤ}
use lib.Signed.{mag}
use Rattle.std.specs.Char.{digit_value}
use Rattle.std.specs.Fmt.{decimal, signed_decimal}
use Rattle.std.specs.Int.{Width, w8, w16, w32, w64, w128}
use Rattle.std.specs.Prelude.{FitsSigned, codes, ⊤}
use Rattle.std.specs.List.{AllZip, AllByRecursion}
use Rattle.std.specs.Str.{IsUtf8, IsAscii}
use Rattle.std.specs.Str.Parse.{IsNumeral, digits_value, signed_digits_value, starts_with_minus, without_leading_plus}
use Rattle.std.specs.Str.Parse.{without_leading_sign}
use Rattle.std.proofs.lemmas.Fmt.{decimal_is_IsNumeral_wide, IsAscii-from_digits}
use Rattle.std.proofs.lemmas.Str.{IsUtf8-from_ascii}
use Rattle.std.specs.declared.alloc.Global.{Global}
use Rattle.resp_value.specs.declared.value.Value.{BulkString, Int, Value, out-Value, the_lemmas}
use Rattle.resp_args.specs.Args.{GivesOne, IsOnly, digit_of}
use Rattle.resp_value.specs.declared.value.Value.TheOpen.{Value-F}
use Rattle.resp_from.specs.Attributes.{stripped}
use Rattle.resp_from.specs.Booleans.{OfBool, IsTruth}
use Rattle.resp_from.specs.Integers.{IsInteger, OfInteger, SignedNumber, SignedText, UnsignedNumber, UnsignedText}
use Rattle.resp_from.specs.Lists.{IsVec, OfVec}
use Rattle.resp_from.specs.Texts.{IsText, OfText}
use Rattle.resp_from.proofs.TopLayer.{out-BulkString}
use Rattle.resp_laws.specs.Laws.{FitsUnsigned, ReadsBack}

bare_bulk : (bytes : List ℕ) → out-Value (stripped (BulkString bytes)) ≡ Value-F.BulkString bytes
bare_bulk bytes = search (rules, the_lemmas)

-- digits begin with no sign
no_minus : (ds : List ℕ) → IsNumeral 10 ds → starts_with_minus ds ≡ false
no_minus [] h = refl
no_minus (c ∷ cs) h = ne_eqb c 45 (λ e. let k : digit_value 45 < 10 = subst (λ x. digit_value x < 10) e h.1.0 in omega
    arith)

no_plus : (ds : List ℕ) → IsNumeral 10 ds → without_leading_plus ds ≡ ds
no_plus [] h = refl
no_plus (c ∷ cs) h = ap (λ b. drop (cond b 1 0) (c ∷ cs))
    (ne_eqb c 43 (λ e. let k : digit_value 43 < 10 = subst (λ x. digit_value x < 10) e h.1.0 in omega arith))

signed_text : (w : Width) (z : ℤ) → mag z + 1 < 10 ^ 64 → FitsSigned w z → SignedText w (signed_decimal z) z
signed_text w (pos n) h fits =
    let k = decimal_is_IsNumeral_wide n (omega (arith, h)) in
    let ds = decimal n in
    let same : without_leading_sign ds ≡ ds = ap (λ b. cond b (drop 1 ds) (without_leading_plus ds)) (no_minus ds k.0)
    ∙ no_plus ds k.0 in
    let value : signed_digits_value 10 ds ≡ pos n = ap
    (λ b. cond b (neg_ℤ (pos (digits_value 10 (without_leading_sign ds))))
    (pos (digits_value 10 (without_leading_sign ds)))) (no_minus ds k.0)
    ∙ ap pos (ap (digits_value 10) same ∙ k.1) in
    (subst (IsNumeral 10) (sym same) k.0, (subst (FitsSigned w) (sym value) fits, sym value))
signed_text w (negsuc n) h fits =
    let k = decimal_is_IsNumeral_wide (suc n) (omega (arith, h)) in
    let value : signed_digits_value 10 (signed_decimal (negsuc n)) ≡ negsuc n = ap (λ m. neg_ℤ (pos m)) k.1 in
    (k.0, (subst (FitsSigned w) (sym value) fits, sym value))

ascii_decimal : (n : ℕ) → n < 10 ^ 64 → IsAscii (decimal n)
ascii_decimal n h = IsAscii-from_digits (decimal n) (decimal_is_IsNumeral_wide n h).0.1

ascii_cons : (ds : List ℕ) → IsAscii ds → IsAscii (45 ∷ ds)
ascii_cons ds h zero = omega arith
ascii_cons ds h (suc i) = h i

utf8_signed : (z : ℤ) → mag z + 1 < 10 ^ 64 → IsUtf8 (signed_decimal z)
utf8_signed (pos n) h = IsUtf8-from_ascii (decimal n) (ascii_decimal n (omega (arith, h)))
utf8_signed (negsuc n) h = IsUtf8-from_ascii (45 ∷ decimal (suc n))
    (ascii_cons (decimal (suc n)) (ascii_decimal (suc n) (omega (arith, h))))

below_wide : (w : Width) (z : ℤ) → FitsSigned w z → mag z + 1 < 10 ^ 64
below_wide w8 z fits = omega (arith, fits.sfits)
below_wide w16 z fits = omega (arith, fits.sfits)
below_wide w32 z fits = omega (arith, fits.sfits)
below_wide w64 z fits = omega (arith, fits.sfits)
below_wide w128 z fits = omega (arith, fits.sfits)

signed_back : (w : Width) (z : ℤ) → FitsSigned w z
    → OfInteger (SignedNumber w) (SignedText w) (BulkString (signed_decimal z)) z
signed_back w z fits =
    let small = below_wide w z fits in
    subst (λ layer. IsInteger (SignedNumber w) (SignedText w) layer z) (sym (bare_bulk (signed_decimal z)))
    (utf8_signed z small, signed_text w z small fits)

unsigned_back : (k n : ℕ) → n < 2 ^ k → n < 10 ^ 64
    → OfInteger (UnsignedNumber k) (UnsignedText k) (BulkString (decimal n)) n
unsigned_back k n fits small =
    let d = decimal_is_IsNumeral_wide n small in
    let same = no_plus (decimal n) d.0 in
    let text : UnsignedText k (decimal n) n =
    (subst (IsNumeral 10) (sym same) d.0, fits, sym (ap (digits_value 10) same ∙ d.1)) in
    subst (λ layer. IsInteger (UnsignedNumber k) (UnsignedText k) layer n) (sym (bare_bulk (decimal n)))
    (IsUtf8-from_ascii (decimal n) (ascii_decimal n small), text)

truth_back : (b : Bool) → OfBool (BulkString (digit_of b)) b
truth_back true = subst (λ layer. IsTruth layer true) (sym (bare_bulk (codes "1"))) refl
truth_back false = subst (λ layer. IsTruth layer false) (sym (bare_bulk (codes "0"))) refl

text_back : (text : List ℕ) → IsUtf8 text → OfText (BulkString text) text
text_back text utf8 = subst (λ layer. IsText layer text) (sym (bare_bulk text)) (utf8, refl)

bare_int : (n : ℤ) → out-Value (stripped (Int n)) ≡ Value-F.Int n
bare_int n = search (rules, the_lemmas)

each_byte : (bytes : List ℕ) → AllByRecursion (λ byte. byte < 256) bytes
    → AllZip (OfInteger (UnsignedNumber 8) (UnsignedText 8)) (map (λ byte. Int (pos byte)) bytes) bytes
each_byte [] h = tt
each_byte (b ∷ bs) h = (
  subst (λ layer. IsInteger (UnsignedNumber 8) (UnsignedText 8) layer b) (sym (bare_int (pos b)))
      (h.0, refl),
  each_byte bs h.1,
)

bytes_back : (bytes : List ℕ) → AllByRecursion (λ byte. byte < 256) bytes
    → OfVec 0 true (OfInteger (UnsignedNumber 8) (UnsignedText 8)) (BulkString bytes) bytes
bytes_back bytes h = subst (λ layer. IsVec 0 true (OfInteger (UnsignedNumber 8) (UnsignedText 8)) layer bytes)
    (sym (out-BulkString bytes)) (each_byte bytes h)

-- what converts back from the bytes that a value is written as does so from the argument it gives
from_only : {X : Type 0} {Fits : X → Type 0} (Of : Value → X → Type 0) (bytes : X → List ℕ)
    → ((x : X) → Fits x → Of (BulkString (bytes x)) x) → ReadsBack Fits (GivesOne bytes) Of
from_only Of bytes back x args fits only = (bytes x, only, back x fits)

abbrev OfSigned : Width → Value → ℤ → Type 0
OfSigned w = OfInteger (SignedNumber w) (SignedText w)

abbrev OfUnsigned : ℕ → Value → ℕ → Type 0
OfUnsigned k = OfInteger (UnsignedNumber k) (UnsignedText k)

pub signed : (w : Width) → ReadsBack (FitsSigned w) (GivesOne signed_decimal) (OfSigned w)
signed w = from_only (OfSigned w) signed_decimal (signed_back w)

-- of a type of at most 128 bits
pub unsigned : (k : ℕ) → ((n : ℕ) → n < 2 ^ k → n < 10 ^ 64)
    → ReadsBack (FitsUnsigned k) (GivesOne decimal) (OfUnsigned k)
unsigned k wide = from_only (OfUnsigned k) decimal (λ n fits. unsigned_back k n fits (wide n fits))

pub truth : ReadsBack (λ _. ⊤) (GivesOne digit_of) OfBool
truth = from_only OfBool digit_of (λ b _. truth_back b)

abbrev OfString : Value → String Global → Type 0
OfString reply x = OfText reply (string_bytes x)

pub string : ReadsBack (λ x. IsUtf8 (string_bytes x)) (GivesOne string_bytes) OfString
string = from_only OfString string_bytes (λ x utf8. text_back (string_bytes x) utf8)

abbrev OfBytes : Value → Vec ℕ Global → Type 0
OfBytes reply x = OfVec 0 true (OfUnsigned 8) reply x.items

pub byte_list : ReadsBack (λ x. AllByRecursion (FitsUnsigned 8) x.items) (λ x args. IsOnly x.items args) OfBytes
byte_list = from_only OfBytes (λ x. x.items) (λ x fits. bytes_back x.items fits)

-- Lemmas: a reply is one integer of a type, one truth value and one text at most.
use Rattle.std.specs.Prelude.{◌≡◌, ◌≢◌, ℕ, ◌==◌, ℤ, pos, nat_abs, Bool, true, false, List, get_or, codes, string_bytes}
use Rattle.std.specs.Bool.{MatchBool}
use Rattle.std.specs.Int.{Width}
use Rattle.std.specs.declared.cmp.Ordering.{Ordering}
use Rattle.std.specs.declared.alloc.Global.{Global}
use Rattle.std.proofs.Common.{String, refl, sym, ap, ◌∙◌}
use Rattle.std.proofs.lemmas.Bool.{true≢false}
use Rattle.resp_value.specs.declared.value.Value.{Value, out-Value}
use Rattle.resp_value.specs.declared.value.Value.TheOpen.{Value-F}
use Rattle.resp_from.specs.Attributes.{stripped}
use Rattle.resp_from.specs.Booleans.{IsTruth, TruthText, OfBool}
use Rattle.resp_from.specs.Integers.{IsInteger, OfInteger, SignedNumber, SignedText, UnsignedNumber, UnsignedText}
use Rattle.resp_from.specs.Texts.{IsText, OfText}
use Rattle.resp_types.specs.OneValue.{GoesBySeen, IsSingleValued}

one_integer : {X : Type 0} (Number : ℤ → X → Type 0) (Writes : List ℕ → X → Type 0)
    → ((n : ℤ) (x y : X) → Number n x → Number n y → x ≡ y)
    → ((t : List ℕ) (x y : X) → Writes t x → Writes t y → x ≡ y)
    → (layer : Value-F Value) (x y : X) → IsInteger Number Writes layer x
    → IsInteger Number Writes layer y → x ≡ y
one_integer Number Writes f g (Value-F.Int n) x y h k = f n x y h k
one_integer Number Writes f g (Value-F.SimpleString t) x y h k = g t x y h k
one_integer Number Writes f g (Value-F.BulkString b) x y h k = g b x y h.1 k.1
one_integer Number Writes f g _ x y h k = absurd h

pub one_signed : (w : Width) → IsSingleValued (OfInteger (SignedNumber w) (SignedText w)) (λ x. x)
one_signed w reply x y h k =
    one_integer (SignedNumber w) (SignedText w) (λ n a b p q. p.1 ∙ sym q.1)
    (λ t a b p q. p.1.1 ∙ sym q.1.1) (out-Value (stripped reply)) x y h k

pub one_unsigned : (bits : ℕ)
    → IsSingleValued (OfInteger (UnsignedNumber bits) (UnsignedText bits)) (λ x. x)
one_unsigned bits reply x y h k =
    one_integer (UnsignedNumber bits) (UnsignedText bits) (λ n a b p q. ap nat_abs (sym p.1 ∙ q.1))
    (λ t a b p q. p.2 ∙ sym q.2) (out-Value (stripped reply)) x y h k

digits_differ : codes "1" ≡ codes "0" → ⊥
digits_differ same = true≢false (ap (λ text. get_or text 0 0 == 49) same)

one_truth_text : (t : List ℕ) (x y : Bool) → TruthText t x → TruthText t y → x ≡ y
one_truth_text t true true h k = refl
one_truth_text t false false h k = refl
one_truth_text t true false h k = absurd (digits_differ (sym h ∙ k))
one_truth_text t false true h k = absurd (digits_differ (sym k ∙ h))

one_truth_number : (n : ℤ) (x y : Bool) → MatchBool x (n ≢ pos 0) (n ≡ pos 0)
    → MatchBool y (n ≢ pos 0) (n ≡ pos 0) → x ≡ y
one_truth_number n true true h k = refl
one_truth_number n false false h k = refl
one_truth_number n true false h k = absurd (h k)
one_truth_number n false true h k = absurd (k h)

one_layer_truth : (layer : Value-F Value) (x y : Bool) → IsTruth layer x → IsTruth layer y → x ≡ y
one_layer_truth Value-F.Nil x y h k = h ∙ sym k
one_layer_truth Value-F.Okay x y h k = h ∙ sym k
one_layer_truth (Value-F.Boolean b) x y h k = h ∙ sym k
one_layer_truth (Value-F.Int n) x y h k = one_truth_number n x y h k
one_layer_truth (Value-F.SimpleString t) x y h k = one_truth_text t x y h k
one_layer_truth (Value-F.BulkString b) x y h k = one_truth_text b x y h k
one_layer_truth _ x y h k = absurd h

pub one_truth : IsSingleValued OfBool (λ x. x)
one_truth reply x y h k = one_layer_truth (out-Value (stripped reply)) x y h k

one_layer_text : (layer : Value-F Value) (x y : List ℕ) → IsText layer x → IsText layer y → x ≡ y
one_layer_text (Value-F.BulkString b) x y h k = h.1 ∙ sym k.1
one_layer_text (Value-F.SimpleString t) x y h k = h ∙ sym k
one_layer_text Value-F.Okay x y h k = h ∙ sym k
one_layer_text (Value-F.VerbatimString format t) x y h k = h ∙ sym k
one_layer_text (Value-F.Int n) x y h k = h ∙ sym k
one_layer_text _ x y h k = absurd h

pub one_text : IsSingleValued OfText (λ x. x)
one_text reply x y h k = one_layer_text (out-Value (stripped reply)) x y h k

pub one_string : IsSingleValued (λ reply (text : String Global). OfText reply (string_bytes text))
    string_bytes
one_string reply x y h k = one_text reply (string_bytes x) (string_bytes y) h k

-- any order goes by the value itself
pub goes_by_itself : {X : Type 0} (cmp : X → X → Ordering) → GoesBySeen cmp (λ x. x)
goes_by_itself cmp x y z same = ap (cmp z) same

-- An integer of a number or of a line is the one that the number is, or that the text writes.
use Rattle.std.proofs.Common.{◌≡◌, ◌↔◌, ℕ, ℤ, List, Some, refl, sym, subst}
use Rattle.resp_value.specs.declared.value.Value.{Value, out-Value}
use Rattle.resp_value.specs.declared.value.Value.TheOpen.{Value-F}
use Rattle.resp_flat.specs.FlatValues.{int_in, int_of}
use Rattle.resp_from.specs.Attributes.{stripped}
use Rattle.resp_from.specs.Integers.{IsInteger, OfInteger, OfTextBytes}
use Rattle.resp_from.specs.Lines.{IsLine}

abbrev without : Value → Value-F Value → Value
without v y = elim y [ Value-F.Attribute payload attributes ↦ payload | _ ↦ v ]

without-line : (v : Value) (y : Value-F Value) (text : List ℕ) → IsLine y text → without v y ≡ v
without-line v (Value-F.SimpleString line) text h = refl
without-line v (Value-F.BulkString bytes) text h = refl
without-line v _ text h = absurd h

line-stripped : (v : Value) (text : List ℕ) → IsLine (out-Value v) text → stripped v ≡ v
line-stripped v text line = without-line v (out-Value v) text line

without-number : (v : Value) (y : Value-F Value) (n : ℤ) → int_in y ≡ Some n → without v y ≡ v
without-number v (Value-F.Int m) n h = refl
without-number v _ n h = absurd (cc)

module _ {X : Type 0} (Number : ℤ → X → Type 0) (Writes : List ℕ → X → Type 0) where
  line-layer : (y : Value-F Value) (bytes : List ℕ) → IsLine y bytes → (x : X)
      → IsInteger Number Writes y x ↔ OfTextBytes Writes bytes x
  line-layer (Value-F.SimpleString line) bytes h x =
      (λ w. (h.0, subst (λ u. Writes u x) (sym h.1) w), λ w. subst (λ u. Writes u x) h.1 w.1)
  line-layer (Value-F.BulkString body) bytes h x =
      (λ w. subst (λ u. OfTextBytes Writes u x) (sym h) w, λ w. subst (λ u. OfTextBytes Writes u x) h w)
  line-layer _ bytes h x = absurd h

  number-layer : (y : Value-F Value) (n : ℤ) → int_in y ≡ Some n → (x : X) → IsInteger Number Writes y x ↔ Number n x
  number-layer (Value-F.Int m) n h x =
      let same : m ≡ n = cc in
      (λ w. subst (λ u. Number u x) same w, λ w. subst (λ u. Number u x) (sym same) w)
  number-layer _ n h x = absurd (cc)

  pub integer_of_line : (v : Value) (bytes : List ℕ) → IsLine (out-Value v) bytes → (x : X)
      → OfInteger Number Writes v x ↔ OfTextBytes Writes bytes x
  integer_of_line v bytes line x =
      subst (λ w. IsInteger Number Writes (out-Value w) x ↔ OfTextBytes Writes bytes x)
      (sym (line-stripped v bytes line)) (line-layer (out-Value v) bytes line x)

  pub integer_of_number : (v : Value) (n : ℤ) → int_of v ≡ Some n → (x : X) → OfInteger Number Writes v x ↔ Number n x
  integer_of_number v n given x =
      subst (λ w. IsInteger Number Writes (out-Value w) x ↔ Number n x) (sym (without-number v (out-Value v) n given))
      (number-layer (out-Value v) n given x)

-- The elements of a list, converted as those of a tuple.
use Rattle.std.proofs.Common.{◌≡◌, ℕ, ◌+◌, ◌==◌, Bool, true, cond, List, [], ◌∷◌, length, sym, ap, subst, ◌∙◌, arith}
use Rattle.std.proofs.Common.{Option, Some, None, Result}
use Rattle.std.proofs.lemmas.Bool.Decides.{nat_tests}
use Rattle.resp_errors.specs.declared.parsing_error.ParsingError.{ParsingError}
use Rattle.resp_value.specs.declared.value.Value.{Value, out-Value}
use Rattle.resp_value.specs.declared.value.Value.TheOpen.{Value-F}
use Rattle.resp_flat.specs.FlatValues.{elements_in, elements_of, pairs_in, count_of}
use Rattle.resp_from.specs.Attributes.{stripped}
use Rattle.resp_from.specs.Conversion.{RefusesIf, Converts}
use Rattle.resp_from.specs.Tuples.{values_of_width, HasValues, First}
use Rattle.resp_from.proofs.Conversions.{RefusesIf-along}
use Rattle.resp_from.specs.Lines.{is_list}
use Rattle.resp_from.specs.Replies.{GivesNext}
use Rattle.resp_from.proofs.Stripping.{list_stripped}

-- ---- the first element and those after it

module _ {R X Y : Type 0} (Shows : R → Value → Type 0) (Left : List Value → Type 0) (Of : Value → X → Type 0)
    (Rest : List Value → Y → Type 0) (r : R) where
  pub first_refused : (e : ParsingError) (vs : List Value) → GivesNext Shows Left (Some r) vs
      → ((w : Value) → Shows r w → RefusesIf e ((x : X) → Of w x → ⊥))
      → RefusesIf e ((p : X × Y) → First Of p.0 (λ ws. Rest ws p.1) vs → ⊥)
  first_refused e [] given none = absurd given
  first_refused e (w ∷ ws) given none = RefusesIf-along e (λ f p h. f p.0 h.0) (none w given.0)

  pub rest_refused : (e : ParsingError) (vs : List Value) → GivesNext Shows Left (Some r) vs
      → ((ws : List Value) → Left ws → RefusesIf e ((y : Y) → Rest ws y → ⊥))
      → RefusesIf e ((p : X × Y) → First Of p.0 (λ ws. Rest ws p.1) vs → ⊥)
  rest_refused e [] given none = absurd given
  rest_refused e (w ∷ ws) given none = RefusesIf-along e (λ f p h. f p.1 h.1) (none ws given.1)

  pub first_and_rest : (x : X) (y : Y) (vs : List Value) → GivesNext Shows Left (Some r) vs
      → ((w : Value) → Shows r w → Of w x) → ((ws : List Value) → Left ws → Rest ws y) → First Of x (λ ws. Rest ws y) vs
  first_and_rest x y [] given of rest = absurd given
  first_and_rest x y (w ∷ ws) given of rest = (of w given.0, rest ws given.1)

-- ---- all of them

of-width : (n : ℕ) (items : List Value) → n ≡ length items + 0 → cond (length items == n) (Some items) None ≡ Some items
of-width n items count =
    let same : (length items == n) ≡ true = grind (arith, nat_tests) in
    ap (λ (b : Bool). cond b (Some items) None) same

all-values : (n : ℕ) (y : Value-F Value) → is_list y ≡ true → n ≡ length (elements_in y) + length (pairs_in y)
    → values_of_width n y ≡ Some (elements_in y)
all-values n (Value-F.Array items) is count = of-width n items count
all-values n (Value-F.Set items) is count = of-width n items count
all-values n _ is count = absurd (cc)

pub has_values : {Y : Type 0} (n : ℕ) (v : Value) (Are : List Value → Y → Type 0) (r : Result Y ParsingError)
    → is_list (out-Value v) ≡ true → n ≡ count_of v
    → Converts (Are (elements_of v)) r → Converts (λ y. HasValues n v (λ values. Are values y)) r
has_values n v Are r is count h =
    let same = list_stripped v is in
    let found : values_of_width n (out-Value (stripped v)) ≡ Some (elements_of v) = ap
    (λ w. values_of_width n (out-Value w)) same ∙ all-values n (out-Value v) is count in
    subst (λ (o : Option (List Value)). Converts (λ y. elim o [ Some values ↦ Are values y | None ↦ ⊥ ]) r) (sym found)
    h

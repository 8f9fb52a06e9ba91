-- Lemmas: a reply is one tuple of a type at most, where it is one value of each element's at most.
use Rattle.std.specs.Prelude.{◌≡◌, ℕ, List, [], ◌∷◌, Option, None, Some}
use Rattle.resp_value.specs.declared.value.Value.{Value, out-Value}
use Rattle.resp_from.specs.Attributes.{stripped}
use Rattle.resp_from.specs.Tuples.{First, HasValues, NoMore, values_of_width}
use Rattle.resp_types.specs.OneValue.{IsSingleValued, pair_seen}

-- two tuples of elements of one list of values look the same
abbrev pub AreSingleValued : {X S : Type 0} → (List Value → X → Type 0) → (X → S) → Type 0
AreSingleValued {X} Of seen =
    (values : List Value) (x y : X) → Of values x → Of values y → seen x ≡ seen y

-- the last element of a tuple
pub last_one : {A S : Type 0} {Of : Value → A → Type 0} {seen : A → S} → IsSingleValued Of seen
    → AreSingleValued (λ values x. First Of x NoMore values) seen
last_one single [] x y h k = absurd h
last_one single (value ∷ values) x y h k = single value x y h.0 k.0

-- one element before others
pub one_and : {A R S T : Type 0} {Of : Value → A → Type 0} {Rest : List Value → R → Type 0}
    {seen : A → S} {rest_seen : R → T} → IsSingleValued Of seen → AreSingleValued Rest rest_seen
    → AreSingleValued {X = A × R}
    (λ values x. First Of x.0 (λ rest. Rest rest x.1) values) (pair_seen seen rest_seen)
one_and single others [] x y h k = absurd h
one_and single others (value ∷ values) x y h k =
    λ i. (single value x.0 y.0 h.0 k.0 i, others values x.1 y.1 h.1 k.1 i)

pub one_of_found : {X S : Type 0} (Of : List Value → X → Type 0) (seen : X → S)
    → AreSingleValued Of seen → (found : Option (List Value)) (x y : X)
    → elim found as (λ o. Type 0) [ Some values ↦ Of values x | None ↦ ⊥ ]
    → elim found as (λ o. Type 0) [ Some values ↦ Of values y | None ↦ ⊥ ] → seen x ≡ seen y
one_of_found Of seen single (Some values) x y h k = single values x y h k
one_of_found Of seen single None x y h k = absurd h

pub one_tuple : {X S : Type 0} (n : ℕ) {Of : List Value → X → Type 0} {seen : X → S}
    → AreSingleValued Of seen
    → IsSingleValued (λ reply x. HasValues n reply (λ values. Of values x)) seen
one_tuple n {Of} {seen} single reply x y h k =
    one_of_found Of seen single (values_of_width n (out-Value (stripped reply))) x y h k

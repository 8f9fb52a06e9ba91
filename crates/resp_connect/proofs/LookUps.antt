-- Steps through the pairs of a query.
use Rattle.std.proofs.Common.{◌≡◌, ℕ, ◌+◌, ◌<◌, cond, List, [], ◌∷◌, length, drop, get_or, Option}
use Rattle.std.proofs.Common.{None, Some, refl, sym, ap, ◌∙◌}
use Rattle.std.proofs.lemmas.Bool.{false_from_ne_true}
use Rattle.std.proofs.lemmas.List.{drop_more}
use Rattle.std.specs.Cmp.Lexicographic.{bytes_decides}
use Rattle.std.specs.Option.{option_or}
use Rattle.resp_connect.specs.Queries.{Pairs, value_of}

-- what is left of a list, when it is not at its end
pub drop-next : {X : Type 0} (xs : List X) (i : ℕ) (x : X) → i < length xs → x ≡ get_or xs i x
    → drop i xs ≡ x ∷ drop (i + 1) xs
drop-next xs i x inside is = drop_more xs i x inside ∙ ap (λ y. y ∷ drop (i + 1) xs) (sym is)

-- a pair of this name has its value, unless a later one has it
value_of-named : (name : List ℕ) (pair : List ℕ × List ℕ) (later : Pairs) → pair.0 ≡ name
    → value_of name (pair ∷ later) ≡ option_or (value_of name later) (Some pair.1)
unfolding value_of
value_of-named name pair later same =
    ap (λ test. option_or (value_of name later) (cond test (Some pair.1) None)) ((bytes_decides pair.0 name).1 same)

value_of-other : (name : List ℕ) (pair : List ℕ × List ℕ) (later : Pairs) → (pair.0 ≡ name → ⊥)
    → value_of name (pair ∷ later) ≡ option_or (value_of name later) None
unfolding value_of
value_of-other name pair later differs =
    ap (λ test. option_or (value_of name later) (cond test (Some pair.1) None))
    (false_from_ne_true _ (λ same. differs ((bytes_decides pair.0 name).0 same)))

pub value_of-nil : (name : List ℕ) → value_of name [] ≡ None
unfolding value_of
value_of-nil name = refl

replaced : {A : Type 0} (later : Option A) (value : A) (found : Option A)
    → option_or later (Some value) ≡ option_or (option_or later (Some value)) found
replaced (Some x) value found = refl
replaced None value found = refl

kept : {A : Type 0} (later found : Option A) → option_or later found ≡ option_or (option_or later None) found
kept (Some x) found = refl
kept None found = refl

pub found_here : (name : List ℕ) (pairs : Pairs) (i : ℕ) (pair : List ℕ × List ℕ) (found : Option (List ℕ))
    → i < length pairs → pair ≡ get_or pairs i pair → pair.0 ≡ name
    → option_or (value_of name (drop (i + 1) pairs)) (Some pair.1)
    ≡ option_or (value_of name (drop i pairs)) found
found_here name pairs i pair found inside is same =
    replaced (value_of name (drop (i + 1) pairs)) pair.1 found
    ∙ ap (λ o. option_or o found)
    (sym (ap (value_of name) (drop-next pairs i pair inside is) ∙ value_of-named name pair _ same))

pub not_found_here : (name : List ℕ) (pairs : Pairs) (i : ℕ) (pair : List ℕ × List ℕ)
    (found : Option (List ℕ)) → i < length pairs → pair ≡ get_or pairs i pair → (pair.0 ≡ name → ⊥)
    → option_or (value_of name (drop (i + 1) pairs)) found
    ≡ option_or (value_of name (drop i pairs)) found
not_found_here name pairs i pair found inside is differs =
    kept (value_of name (drop (i + 1) pairs)) found
    ∙ ap (λ o. option_or o found)
    (sym (ap (value_of name) (drop-next pairs i pair inside is) ∙ value_of-other name pair _ differs))

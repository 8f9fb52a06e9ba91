-- How many views there are, at most.
use Rattle.std.proofs.Common.{ℕ, zero, suc, ◌≡◌, ◌/◌, ◌≤◌, List, [], ◌∷◌, length, refl, ap, arith}
use Rattle.std.specs.List.{AllZip}
use Rattle.resp_flat.specs.declared.token.Token.{Token}
use Rattle.resp_flat.specs.declared.flat_iter.FlatElements.{FlatElements}
use Rattle.resp_flat.specs.FlatValues.{part_count, after_values, views_from, elements_left, two_by_two}

pub views_fewer : (n : ℕ) (ts : List Token) (x : List ℕ) → length (views_from n ts x) ≤ n
views_fewer zero ts x = omega arith
views_fewer (suc n) [] x = omega arith
views_fewer (suc n) (t ∷ ts) x = let later = views_fewer n (after_values (part_count t.kind t.size) ts) x in omega arith

pub elements_fewer : (it : FlatElements) → length (elements_left it) ≤ it.left
elements_fewer it = views_fewer it.left it.tokens.now it.text.now

pub pairs_counted : {A : Type 0} (xs : List A) → length (two_by_two xs) ≡ length xs / 2
pairs_counted [] = omega arith
pairs_counted (x ∷ []) = omega arith
pairs_counted (x ∷ y ∷ xs) = let later = pairs_counted xs in omega arith

-- as many on the one side as on the other
pub one_for_each : {A B : Type 0} (R : A → B → Type 0) (xs : List A) (ys : List B) → AllZip R xs ys → length xs
    ≡ length ys
one_for_each R [] [] h = refl
one_for_each R [] (y ∷ ys) h = absurd h
one_for_each R (x ∷ xs) [] h = absurd h
one_for_each R (x ∷ xs) (y ∷ ys) h = ap (λ (n : ℕ). suc n) (one_for_each R xs ys h.1)

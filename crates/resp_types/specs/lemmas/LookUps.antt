-- Lemmas: look-ups in lists that are alike find what looks the same, where the test goes by what a
-- key looks like.
use Rattle.std.specs.Prelude.{◌≡◌, Bool, true, false, cond, ◌||◌, List, [], ◌∷◌, Option, Some, option_map}
use Rattle.std.specs.List.{find, list_any}
use Rattle.std.specs.Map.{lookup, lookup_key}
use Rattle.std.proofs.Common.{refl, sym, ap, ◌∙◌}
use mathlib.Core.List.{reverse_aux}
use Rattle.resp_types.specs.OneValue.{pair_seen}
use Rattle.resp_types.specs.lemmas.Lists.{AreAlike}

pub alike_reversed : {X S : Type 0} (seen : X → S) (xs ys us vs : List X) → AreAlike seen xs ys
    → AreAlike seen us vs → AreAlike seen (reverse_aux xs us) (reverse_aux ys vs)
alike_reversed seen [] [] us vs h k = k
alike_reversed seen [] (y ∷ ys) us vs h k = absurd h
alike_reversed seen (x ∷ xs) [] us vs h k = absurd h
alike_reversed seen (x ∷ xs) (y ∷ ys) us vs h k =
    alike_reversed seen xs ys (x ∷ us) (y ∷ vs) h.1 (h.0, k)

option_map-cond : {X S : Type 0} (seen : X → S) (b : Bool) (x : X) (o : Option X)
    → option_map seen (cond b (Some x) o) ≡ cond b (Some (seen x)) (option_map seen o)
option_map-cond seen true x o = refl
option_map-cond seen false x o = refl

-- one step of a look-up in two lists
step : {X S : Type 0} (seen : X → S) (b c : Bool) (x y : X) (o u : Option X) → b ≡ c
    → seen x ≡ seen y → option_map seen o ≡ option_map seen u
    → option_map seen (cond b (Some x) o) ≡ option_map seen (cond c (Some y) u)
step seen b c x y o u same first rest =
    option_map-cond seen b x o ∙ (λ i. cond (same i) (Some (first i)) (rest i))
    ∙ sym (option_map-cond seen c y u)

module _ {K S : Type 0} (seen : K → S) (test : K → Bool)
    (goes : (x y : K) → seen x ≡ seen y → test x ≡ test y) where
  pub alike_found : (xs ys : List K) → AreAlike seen xs ys
      → option_map seen (find test xs) ≡ option_map seen (find test ys)
  alike_found [] [] h = refl
  alike_found [] (y ∷ ys) h = absurd h
  alike_found (x ∷ xs) [] h = absurd h
  alike_found (x ∷ xs) (y ∷ ys) h =
      step seen (test x) (test y) x y (find test xs) (find test ys) (goes x y h.0) h.0
      (alike_found xs ys h.1)

  pub alike_any : (xs ys : List K) → AreAlike seen xs ys → list_any test xs ≡ list_any test ys
  alike_any [] [] h = refl
  alike_any [] (y ∷ ys) h = absurd h
  alike_any (x ∷ xs) [] h = absurd h
  alike_any (x ∷ xs) (y ∷ ys) h = λ i. goes x y h.0 i || alike_any xs ys h.1 i

  module _ {V T : Type 0} (value_seen : V → T) where
    pub alike_keys : (es ds : List (K × V)) → AreAlike (pair_seen seen value_seen) es ds
        → option_map seen (lookup_key test es) ≡ option_map seen (lookup_key test ds)
    alike_keys [] [] h = refl
    alike_keys [] (d ∷ ds) h = absurd h
    alike_keys (e ∷ es) [] h = absurd h
    alike_keys (e ∷ es) (d ∷ ds) h =
        let key : seen e.0 ≡ seen d.0 = ap (λ p. p.0) h.0 in
        step seen (test e.0) (test d.0) e.0 d.0 (lookup_key test es) (lookup_key test ds)
        (goes e.0 d.0 key) key (alike_keys es ds h.1)

    pub alike_values : (es ds : List (K × V)) → AreAlike (pair_seen seen value_seen) es ds
        → option_map value_seen (lookup test es) ≡ option_map value_seen (lookup test ds)
    alike_values [] [] h = refl
    alike_values [] (d ∷ ds) h = absurd h
    alike_values (e ∷ es) [] h = absurd h
    alike_values (e ∷ es) (d ∷ ds) h =
        step value_seen (test e.0) (test d.0) e.1 d.1 (lookup test es) (lookup test ds)
        (goes e.0 d.0 (ap (λ p. p.0) h.0)) (ap (λ p. p.1) h.0) (alike_values es ds h.1)

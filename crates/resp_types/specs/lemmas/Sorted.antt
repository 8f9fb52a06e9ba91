-- Lemmas: sorted maps, and sorted sets, that are filled with items alike are alike.
use Rattle.std.specs.Prelude.{◌≡◌, Bool, true, false, cond, ◌||◌, List, [], ◌∷◌, map, reverse, get_or, Option, None}
use Rattle.std.specs.Prelude.{Some, option_map}
use Rattle.std.specs.Cmp.{IsTotalOrder, eq_by_cmp_equiv}
use Rattle.std.specs.List.{AllByRecursion, find, list_any}
use Rattle.std.specs.List.Sorted.{IsStrictlySortedBy}
use Rattle.std.specs.Map.{keys_of, lookup, lookup_key}
use Rattle.std.specs.Ordering.{is_eq, eq_by_cmp}
use Rattle.std.specs.declared.cmp.Ordering.{Ordering}
use Rattle.std.specs.declared.cmp.Ordering.TheVariants.{Equal}
use Rattle.std.proofs.Common.{refl, sym, ap, ◌∙◌, subst}
use Rattle.std.proofs.lemmas.List.Elements.{recursion_from_All}
use Rattle.std.proofs.lemmas.Map.Lookups.{map_keys}
use Rattle.std.proofs.lemmas.Map.Made.{lookup-map_values}
use Rattle.resp_containers.specs.Keyed.{sorted, IsMerged, IsDeduplicated}
use Rattle.resp_types.specs.OneValue.{GoesBySeen, pair_seen}
use Rattle.resp_types.specs.lemmas.InOrder.{read_alike, read_as_seen}
use Rattle.resp_types.specs.lemmas.Lists.{AreAlike}
use Rattle.resp_types.specs.lemmas.LookUps.{alike_any, alike_found, alike_keys, alike_reversed, alike_values}

-- the entries, with what each value looks like
abbrev valued : {K V T : Type 0} → (V → T) → List (K × V) → List (K × T)
valued {K} {V} {T} value_seen es = map {B = K × T} (λ (e : K × V). (e.0, value_seen e.1)) es

keys_valued : {K V T : Type 0} (value_seen : V → T) (es : List (K × V))
    → keys_of (valued value_seen es) ≡ keys_of es
keys_valued value_seen [] = refl
keys_valued value_seen (e ∷ es) = λ i. e.0 ∷ keys_valued value_seen es i

seen_valued : {K S V T : Type 0} (seen : K → S) (value_seen : V → T) (es : List (K × V))
    → map_keys seen (valued value_seen es) ≡ map (pair_seen seen value_seen) es
seen_valued seen value_seen [] = refl
seen_valued seen value_seen (e ∷ es) =
    λ i. (seen e.0, value_seen e.1) ∷ seen_valued seen value_seen es i

-- a set as the entries of a map to `()`
abbrev units : {K : Type 0} → List K → List (K × Unit {0})
units {K} ks = map {B = K × Unit {0}} (λ k. (k, tt)) ks

keys_units : {K : Type 0} (ks : List K) → keys_of (units ks) ≡ ks
keys_units [] = refl
keys_units (k ∷ ks) = λ i. k ∷ keys_units ks i

seen_units : {K S : Type 0} (seen : K → S) (ks : List K)
    → keys_of (map_keys seen (units ks)) ≡ map seen ks
seen_units seen [] = refl
seen_units seen (k ∷ ks) = λ i. seen k ∷ seen_units seen ks i

unit_step : (b c : Bool) (o : Option (Unit {0})) → o ≡ cond c (Some tt) None
    → cond b (Some tt) o ≡ cond (b || c) (Some tt) None
unit_step true c o e = refl
unit_step false c o e = e

lookup-units : {K : Type 0} (test : K → Bool) (ks : List K)
    → lookup test (units ks) ≡ cond (list_any test ks) (Some tt) None
lookup-units test [] = refl
lookup-units test (k ∷ ks) =
    unit_step (test k) (list_any test ks) (lookup test (units ks)) (lookup-units test ks)

module _ {K S : Type 0} (cmp : K → K → Ordering) (total : IsTotalOrder cmp) (seen : K → S)
    (goes : GoesBySeen cmp seen) where
  test_goes : (q x y : K) → seen x ≡ seen y → eq_by_cmp cmp q x ≡ eq_by_cmp cmp q y
  test_goes q x y e = ap is_eq (goes x y q e)

  tests_tied : (x y : K) → cmp x y ≡ Equal → eq_by_cmp cmp x ≡ eq_by_cmp cmp y
  tests_tied x y e = let laws = eq_by_cmp_equiv total in λ i z. laws.congr x y z (ap is_eq e) i

  -- two lists of entries in order, whose keys f reads as what they look like
  in_order : {T : Type 0} (f : K → Option S) → ((x y : K) → cmp x y ≡ Equal → f x ≡ f y)
      → (es ds : List (K × T)) (ks js : List K) → keys_of es ≡ ks → keys_of ds ≡ js
      → IsStrictlySortedBy cmp ks → IsStrictlySortedBy cmp js
      → AllByRecursion (λ k. f k ≡ Some (seen k)) ks → AllByRecursion (λ k. f k ≡ Some (seen k)) js
      → ((q : K) → lookup (eq_by_cmp cmp q) es ≡ lookup (eq_by_cmp cmp q) ds)
      → map_keys seen es ≡ map_keys seen ds
  in_order f ties es ds ks js ek dj s t h k same =
      let Finds : K → Type 0 = λ q. f q ≡ Some (seen q) in
      let read = read_alike cmp total f ties es ds (subst (IsStrictlySortedBy cmp) (sym ek) s)
      (subst (IsStrictlySortedBy cmp) (sym dj) t) same in
      read_as_seen seen f es ds (subst (AllByRecursion Finds) (sym ek) h)
      (subst (AllByRecursion Finds) (sym dj) k) read

  -- two sorted maps of pairs that are alike
  pub merged_alike : {V T : Type 0} (value_seen : V → T) (es ds m n : List (K × V))
      → AreAlike (pair_seen seen value_seen) es ds → IsMerged (sorted cmp) es m
      → IsMerged (sorted cmp) ds n
      → map (pair_seen seen value_seen) m ≡ map (pair_seen seen value_seen) n
  merged_alike {V} {T} value_seen es ds m n alike h k =
      let f : K → Option S = λ q. option_map seen (lookup_key (eq_by_cmp cmp q) es) in
      let ties : (x y : K) → cmp x y ≡ Equal → f x ≡ f y =
      λ x y e. ap (λ test. option_map seen (lookup_key test es)) (tests_tied x y e) in
      let Finds : K → Type 0 = λ q. f q ≡ Some (seen q) in
      let first : AllByRecursion Finds (keys_of m) =
      recursion_from_All Finds (keys_of m) (λ i d p. ap (option_map seen) (h.first_keys i d p))
      in
      let second : AllByRecursion Finds (keys_of n) =
      recursion_from_All Finds (keys_of n) (λ i d p.
      let q = get_or (keys_of n) i d in
      alike_keys seen (eq_by_cmp cmp q) (test_goes q) value_seen es ds alike
      ∙ ap (option_map seen) (k.first_keys i d p)) in
      let backwards : AreAlike (pair_seen seen value_seen) (reverse es) (reverse ds) =
      alike_reversed (pair_seen seen value_seen) es ds [] [] alike tt in
      let same : (q : K) → lookup (eq_by_cmp cmp q) (valued value_seen m)
      ≡ lookup (eq_by_cmp cmp q) (valued value_seen n) = λ q.
      let test = eq_by_cmp cmp q in
      lookup-map_values value_seen test m ∙ ap (option_map value_seen) (h.last_values q)
      ∙ alike_values seen test (test_goes q) value_seen (reverse es) (reverse ds) backwards
      ∙ ap (option_map value_seen) (sym (k.last_values q))
      ∙ sym (lookup-map_values value_seen test n) in
      sym (seen_valued seen value_seen m)
      ∙ in_order f ties (valued value_seen m) (valued value_seen n) (keys_of m) (keys_of n)
      (keys_valued value_seen m) (keys_valued value_seen n) h.kept k.kept first second same
      ∙ seen_valued seen value_seen n

  -- two sorted sets of items that are alike
  pub deduplicated_alike : (xs ys m n : List K) → AreAlike seen xs ys
      → IsDeduplicated (sorted cmp) xs m → IsDeduplicated (sorted cmp) ys n
      → map seen m ≡ map seen n
  deduplicated_alike xs ys m n alike h k =
      let f : K → Option S = λ q. option_map seen (find (eq_by_cmp cmp q) xs) in
      let ties : (x y : K) → cmp x y ≡ Equal → f x ≡ f y =
      λ x y e. ap (λ test. option_map seen (find test xs)) (tests_tied x y e) in
      let Finds : K → Type 0 = λ q. f q ≡ Some (seen q) in
      let first : AllByRecursion Finds m =
      recursion_from_All Finds m (λ i d p. ap (option_map seen) (h.firsts i d p)) in
      let second : AllByRecursion Finds n = recursion_from_All Finds n (λ i d p.
      let q = get_or n i d in
      alike_found seen (eq_by_cmp cmp q) (test_goes q) xs ys alike
      ∙ ap (option_map seen) (k.firsts i d p)) in
      let same : (q : K) → lookup (eq_by_cmp cmp q) (units m) ≡ lookup (eq_by_cmp cmp q) (units n)
      = λ q.
      let test = eq_by_cmp cmp q in
      let any = h.whole q ∙ alike_any seen test (test_goes q) xs ys alike ∙ sym (k.whole q) in
      lookup-units test m ∙ ap (λ b. cond b (Some tt) None) any ∙ sym (lookup-units test n) in
      let alike_units = in_order f ties (units m) (units n) m n (keys_units m) (keys_units n) h.kept
      k.kept first second same in
      sym (seen_units seen m) ∙ ap keys_of alike_units ∙ seen_units seen n

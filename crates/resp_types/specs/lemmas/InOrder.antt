-- Lemmas: entries in order, of which each key finds the same value, have keys that are read alike.
use Rattle.std.specs.Prelude.{◌≡◌, true, false, List, [], ◌∷◌, map, get_or, drop, Option, None, Some, unwrap_or}
use Rattle.std.specs.Prelude.{is_some}
use Rattle.std.specs.Cmp.{IsTotalOrder, eq_by_cmp_equiv, tied_itself}
use Rattle.std.specs.List.{AllByRecursion}
use Rattle.std.specs.List.Sorted.{IsStrictlySortedBy}
use Rattle.std.specs.Map.{keys_of, lookup}
use Rattle.std.specs.Ordering.{is_eq, eq_by_cmp, ordering_reverse}
use Rattle.std.specs.declared.cmp.Ordering.{Ordering}
use Rattle.std.specs.declared.cmp.Ordering.TheVariants.{Less, Equal, Greater}
use Rattle.std.proofs.Common.{⊎_elim, refl, sym, ap, ◌∙◌}
use Rattle.std.proofs.lemmas.Bool.{true≢false, cases_Bool}
use Rattle.std.proofs.lemmas.Map.{lookup-none}
use Rattle.std.proofs.lemmas.Map.Entries.{lookup_head, lookup_tail, none_past_head, none_below_head}
use Rattle.std.proofs.lemmas.Map.Keys.{sorted_tail, IsDistinct-from_sorted}
use Rattle.std.proofs.lemmas.Map.Lookups.{map_keys}

not_none : {T : Type 0} (value : T) → Some value ≡ None → ⊥
not_none value e = true≢false (ap is_some e)

module _ {K T : Type 0} (cmp : K → K → Ordering) (total : IsTotalOrder cmp) where
  abbrev InOrder : List (K × T) → Type 0
  InOrder es = IsStrictlySortedBy cmp (keys_of es)

  abbrev value_at : List (K × T) → K → Option T
  value_at es q = lookup (eq_by_cmp cmp q) es

  at_head : (e : K × T) (es : List (K × T)) → value_at (e ∷ es) e.0 ≡ Some e.1
  at_head e es = lookup_head (eq_by_cmp cmp e.0) e es (ap is_eq (tied_itself total e.0))

  past_head : (q : K) (e : K × T) (es : List (K × T)) → InOrder (e ∷ es)
      → eq_by_cmp cmp q e.0 ≡ true → value_at es q ≡ None
  past_head q e es s t =
      lookup-none (eq_by_cmp cmp q) es
      (none_past_head (eq_by_cmp_equiv total) q e es (IsDistinct-from_sorted cmp _ s) t)

  module _ (e d : K × T) (es ds : List (K × T)) (s : InOrder (e ∷ es)) (t : InOrder (d ∷ ds))
      (same : (q : K) → value_at (e ∷ es) q ≡ value_at (d ∷ ds) q) where
    first_by : (r : Ordering) → cmp e.0 d.0 ≡ r → cmp e.0 d.0 ≡ Equal
    first_by Less p =
        let none = lookup-none _ (d ∷ ds) (none_below_head total e.0 d ds t p) in
        absurd (not_none e.1 (sym (at_head e es) ∙ same e.0 ∙ none))
    first_by Equal p = p
    first_by Greater p =
        let below = total.antisymm d.0 e.0 ∙ ap ordering_reverse p in
        let none = lookup-none _ (e ∷ es) (none_below_head total d.0 e es s below) in
        absurd (not_none d.1 (sym (at_head d ds) ∙ sym (same d.0) ∙ none))

    first_keys : cmp e.0 d.0 ≡ Equal
    first_keys = first_by (cmp e.0 d.0) refl

    first_values : e.1 ≡ d.1
    first_values =
        let found = lookup_head (eq_by_cmp cmp e.0) d ds (ap is_eq first_keys) in
        ap (λ o. unwrap_or o e.1) (sym (at_head e es) ∙ same e.0 ∙ found)

    others : (q : K) → value_at es q ≡ value_at ds q
    others q =
        let laws = eq_by_cmp_equiv total in
        let turned = sym (laws.congr e.0 d.0 q (ap is_eq first_keys)) in
        let tied : eq_by_cmp cmp q d.0 ≡ eq_by_cmp cmp q e.0 =
        laws.symm q d.0 ∙ turned ∙ laws.symm e.0 q in
        let head = lookup_tail (eq_by_cmp cmp q) in
        ⊎_elim (λ b. past_head q e es s b ∙ sym (past_head q d ds t (tied ∙ b)))
        (λ b. sym (head e es b) ∙ same q ∙ head d ds (tied ∙ b))
        (cases_Bool (eq_by_cmp cmp q e.0))

  -- f reads a key, and reads alike what the order ties
  pub read_alike : {S : Type 0} (f : K → S) → ((x y : K) → cmp x y ≡ Equal → f x ≡ f y)
      → (es ds : List (K × T)) → InOrder es → InOrder ds
      → ((q : K) → value_at es q ≡ value_at ds q) → map_keys f es ≡ map_keys f ds
  read_alike f ties [] [] s t same = refl
  read_alike f ties [] (d ∷ ds) s t same = absurd (not_none d.1 (sym (same d.0 ∙ at_head d ds)))
  read_alike f ties (e ∷ es) [] s t same = absurd (not_none e.1 (sym (at_head e es) ∙ same e.0))
  read_alike f ties (e ∷ es) (d ∷ ds) s t same =
      let key = ties e.0 d.0 (first_keys e d es ds s t same) in
      let value = first_values e d es ds s t same in
      let rest = read_alike f ties es ds (sorted_tail cmp e.0 (keys_of es) s)
      (sorted_tail cmp d.0 (keys_of ds) t) (others e d es ds s t same) in
      λ i. (key i, value i) ∷ rest i

not_cons : {X : Type 0} (x : X) (xs : List X) → x ∷ xs ≡ [] → ⊥
not_cons x xs e = true≢false (ap (λ l. get_or (map (λ y. true) l) 0 false) e)

-- what f reads of each key is what the key looks like
pub read_as_seen : {K S T : Type 0} (seen : K → S) (f : K → Option S) (es ds : List (K × T))
    → AllByRecursion (λ k. f k ≡ Some (seen k)) (keys_of es)
    → AllByRecursion (λ k. f k ≡ Some (seen k)) (keys_of ds) → map_keys f es ≡ map_keys f ds
    → map_keys seen es ≡ map_keys seen ds
read_as_seen seen f [] [] h k same = refl
read_as_seen seen f [] (d ∷ ds) h k same = absurd (not_cons _ _ (sym same))
read_as_seen seen f (e ∷ es) [] h k same = absurd (not_cons _ _ same)
read_as_seen {K} {S} {T} seen f (e ∷ es) (d ∷ ds) h k same =
    let first : ◌≡◌ {A = Option S × T} (f e.0, e.1) (f d.0, d.1) =
    ap (λ l. get_or l 0 (f e.0, e.1)) same in
    let found : Some (seen e.0) ≡ Some (seen d.0) = sym h.0 ∙ ap (λ p. p.0) first ∙ k.0 in
    let key : seen e.0 ≡ seen d.0 = ap (λ o. unwrap_or o (seen e.0)) found in
    let rest = read_as_seen seen f es ds h.1 k.1 (ap (drop 1) same) in
    λ i. (key i, (first i).1) ∷ rest i

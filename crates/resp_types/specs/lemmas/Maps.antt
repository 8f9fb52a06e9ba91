-- Lemmas: a reply is one sorted map, and one sorted set, of a type at most, where it is one value
-- of what is inside at most.
use Rattle.std.specs.Prelude.{◌≡◌, List, map, Option, Some, unwrap_or}
use Rattle.std.specs.Cmp.{IsTotalOrder}
use Rattle.std.specs.List.{AllZip}
use Rattle.std.specs.declared.cmp.Ordering.{Ordering}
use Rattle.std.proofs.Common.{sym, ap, ◌∙◌, subst}
use Rattle.resp_value.specs.declared.value.Value.{Value}
use Rattle.resp_containers.specs.Keyed.{Keying, sorted}
use Rattle.resp_from.specs.Maps.{OfMap, OfPair, OfSet}
use Rattle.resp_types.specs.OneValue.{GoesBySeen, IsSingleValued, pair_seen}
use Rattle.resp_types.specs.lemmas.Lists.{AreAlike, alike_partners}
use Rattle.resp_types.specs.lemmas.Sorted.{deduplicated_alike, merged_alike}

same_found : {X : Type 0} (o : Option X) (x y : X) → o ≡ Some x → o ≡ Some y → x ≡ y
same_found o x y h k = ap (λ found. unwrap_or found x) (sym h ∙ k)

-- two lists that stand for what was found, item by item
alike_found : {A X S : Type 0} (Of : A → X → Type 0) (seen : X → S)
    → ((a : A) (x y : X) → Of a x → Of a y → seen x ≡ seen y) → (o : Option (List A))
    (ls ms : List A) (xs ys : List X) → o ≡ Some ls → o ≡ Some ms → AllZip Of ls xs
    → AllZip Of ms ys → AreAlike seen xs ys
alike_found Of seen f o ls ms xs ys h k each again = alike_partners Of seen f ls xs ys each
    (subst (λ items. AllZip Of items ys) (same_found o ms ls k h) again)

-- two conversions of one reply put items that look the same in a map or a set, whichever way it
-- keeps them
module _ {K S : Type 0} (keying : Keying K) (OfKey : Value → K → Type 0) (seen : K → S)
    (single : IsSingleValued OfKey seen) where
  pub alike_entries : {V T : Type 0} (OfValue : Value → V → Type 0) (value_seen : V → T)
      → IsSingleValued OfValue value_seen → (reply : Value) (m n : List (K × V))
      (h : OfMap keying OfKey OfValue reply m) (k : OfMap keying OfKey OfValue reply n)
      → AreAlike (pair_seen seen value_seen) h.holds.converted k.holds.converted
  alike_entries OfValue value_seen value_single reply m n h k =
      alike_found (OfPair OfKey OfValue) (pair_seen seen value_seen)
      (λ pair e d p q i.
      (single pair.0 e.0 d.0 p.0 q.0 i, value_single pair.1 e.1 d.1 p.1 q.1 i))
      _ h.pairs k.pairs h.holds.converted k.holds.converted h.found k.found
      h.holds.each k.holds.each

  pub alike_members : (reply : Value) (m n : List K) (h : OfSet keying OfKey reply m)
      (k : OfSet keying OfKey reply n) → AreAlike seen h.holds.converted k.holds.converted
  alike_members reply m n h k = alike_found OfKey seen single _ h.items k.items
      h.holds.converted k.holds.converted h.found k.found h.holds.each k.holds.each

module _ {K S : Type 0} (cmp : K → K → Ordering) (total : IsTotalOrder cmp)
    (OfKey : Value → K → Type 0) (seen : K → S) (goes : GoesBySeen cmp seen)
    (single : IsSingleValued OfKey seen) where
  pub one_sorted_map : {V T : Type 0} (OfValue : Value → V → Type 0) (value_seen : V → T)
      → IsSingleValued OfValue value_seen → (reply : Value) (m n : List (K × V))
      → OfMap (sorted cmp) OfKey OfValue reply m → OfMap (sorted cmp) OfKey OfValue reply n
      → map (pair_seen seen value_seen) m ≡ map (pair_seen seen value_seen) n
  one_sorted_map OfValue value_seen value_single reply m n h k =
      merged_alike cmp total seen goes value_seen h.holds.converted k.holds.converted m n
      (alike_entries (sorted cmp) OfKey seen single OfValue value_seen value_single reply m n h k)
      h.holds.merged k.holds.merged

  pub one_sorted_set : (reply : Value) (m n : List K) → OfSet (sorted cmp) OfKey reply m
      → OfSet (sorted cmp) OfKey reply n → map seen m ≡ map seen n
  one_sorted_set reply m n h k =
      deduplicated_alike cmp total seen goes h.holds.converted k.holds.converted m n
      (alike_members (sorted cmp) OfKey seen single reply m n h k)
      h.holds.deduplicated k.holds.deduplicated

-- Maps and sets that replies fill one after another.
use Rattle.std.proofs.Common.{◌≡◌, List, [], ◌∷◌, ◌++◌, subst}
use Rattle.std.specs.List.{AllZip}
use Rattle.resp_value.specs.declared.value.Value.{Value}
use Rattle.resp_containers.specs.Keyed.{Keying, IsMerged, IsDeduplicated}
use Rattle.resp_from.specs.Maps.{OfPair, HoldsMap, HoldsSet}
use Rattle.resp_from.proofs.Conversions.{AllZip-more}

AllZip-partner : {A B : Type 0} (R : A → B → Type 0) (done : List A) (a : A) (rest : List A) (bs : List B)
    → AllZip R (done ++ a ∷ rest) bs → (b : B) × R a b
AllZip-partner R [] a rest [] h = absurd h
AllZip-partner R [] a rest (b ∷ bs) h = (b, h.0)
AllZip-partner R (x ∷ xs) a rest [] h = absurd h
AllZip-partner R (x ∷ xs) a rest (b ∷ bs) h = AllZip-partner R xs a rest bs h.1

module _ {K V : Type 0} (keying : Keying K) (OfKey : Value → K → Type 0) (OfValue : Value → V → Type 0) where
  pub no_pairs : (entries : List (K × V)) → IsMerged keying [] entries → HoldsMap keying OfKey OfValue [] entries
  no_pairs entries merged = record { converted = []; each = tt; merged = merged }

  pub one_pair_more : (pairs : List (Value × Value)) (pair : Value × Value) (old new : List (K × V)) (key : K)
      (value : V) → HoldsMap keying OfKey OfValue pairs old → OfPair OfKey OfValue pair (key, value)
      → ((done : List (K × V)) → IsMerged keying done old → IsMerged keying (done ++ (key, value) ∷ []) new)
      → HoldsMap keying OfKey OfValue (pairs ++ pair ∷ []) new
  one_pair_more pairs pair old new key value holds of put = record {
    converted = holds.converted ++ (key, value) ∷ [];
    each = AllZip-more (OfPair OfKey OfValue) pairs holds.converted pair (key, value) holds.each of;
    merged = put holds.converted holds.merged;
  }

  -- each pair of a map converts
  pub pair_converts : (all done : List (Value × Value)) (pair : Value × Value) (rest : List (Value × Value))
      → all ≡ done ++ pair ∷ rest → (entries : List (K × V)) → HoldsMap keying OfKey OfValue all entries
      → (entry : K × V) × OfPair OfKey OfValue pair entry
  pair_converts all done pair rest same entries holds = AllZip-partner (OfPair OfKey OfValue) done pair rest
      holds.converted (subst (λ pairs. AllZip (OfPair OfKey OfValue) pairs holds.converted) same holds.each)

module _ {X : Type 0} (keying : Keying X) (Of : Value → X → Type 0) where
  pub no_items : (members : List X) → IsDeduplicated keying [] members → HoldsSet keying Of [] members
  no_items members deduplicated = record { converted = []; each = tt; deduplicated = deduplicated }

  pub one_item_more : (items : List Value) (item : Value) (old new : List X) (member : X) → HoldsSet keying Of items old
      → Of item member → ((done : List X) → IsDeduplicated keying done old
      → IsDeduplicated keying (done ++ member ∷ []) new) → HoldsSet keying Of (items ++ item ∷ []) new
  one_item_more items item old new member holds of put = record {
    converted = holds.converted ++ member ∷ [];
    each = AllZip-more Of items holds.converted item member holds.each of;
    deduplicated = put holds.converted holds.deduplicated;
  }

  -- each item of a set converts
  pub item_converts : (all done : List Value) (item : Value) (rest : List Value) → all ≡ done ++ item ∷ rest
      → (members : List X) → HoldsSet keying Of all members → (member : X) × Of item member
  item_converts all done item rest same members holds = AllZip-partner Of done item rest holds.converted
      (subst (λ items. AllZip Of items holds.converted) same holds.each)

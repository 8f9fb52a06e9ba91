-- Maps and sets that are filled from replies in any form.
use Rattle.std.proofs.Common.{◌≡◌, ◌++◌, ◌∷◌, [], ◌%◌, ◌==◌, length, Ok, Err, List, true, refl, sym, ap, ◌∙◌, subst}
use Rattle.std.proofs.Common.{Option, Some, None, cond, false, Bool, Result}
use Rattle.resp_containers.specs.Keyed.{Keying, IsMerged, IsDeduplicated}
use Rattle.resp_errors.specs.declared.parsing_error.ParsingError.{ParsingError}
use Rattle.resp_value.specs.declared.value.Value.{Value, out-Value}
use Rattle.resp_value.specs.declared.value.Value.TheOpen.{Value-F}
use Rattle.resp_value.specs.Views.{pairs, sequence_of, pairs_of}
use Rattle.resp_flat.specs.declared.token.TokenKind.TheVariants as kind
use Rattle.resp_flat.specs.FlatValues.{elements_in, elements_of, kind_in, kind_of}
use Rattle.resp_flat.specs.FlatValues as flat
use Rattle.resp_from.specs.Attributes.{stripped}
use Rattle.resp_from.specs.Conversion.{RefusesIf, Converts}
use Rattle.resp_from.specs.Maps.{OfPair, OfMap, OfSet, HoldsMap, HoldsSet, map_pairs}
use Rattle.resp_from.specs.Wrappers.{is_nil}
use Rattle.resp_from.proofs.Conversions.{RefusesIf-along}
use Rattle.resp_from.proofs.Filling.{one_pair_more, pair_converts, one_item_more, item_converts}
use Rattle.resp_from.specs.Lines.{is_list}
use Rattle.resp_from.specs.Replies.{GivesNext}
use Rattle.resp_from.proofs.OneByOne.{AtSome, next, at_next}
use Rattle.resp_from.proofs.Stripping.{list_stripped, map_stripped}

-- ---- a set

module _ {R X : Type 0} (Shows : R → Value → Type 0) (keying : Keying X) (Of : Value → X → Type 0)
    (Before Left : List Value → Type 0) (r : R) (old : List X) (vs : List Value) where
  abbrev Old : List Value → Type 0
  Old done = HoldsSet keying Of done old

  pub item_next : (new : List X) (x : X) (h : AtSome Before Old vs) → GivesNext Shows Left (Some r) h.others
      → ((w : Value) → Shows r w → Of w x) → ((done : List X) → IsDeduplicated keying done old
      → IsDeduplicated keying (done ++ x ∷ []) new) → AtSome Left (λ done. HoldsSet keying Of done new) vs
  item_next new x h given of put =
      at_next Shows Left Before Old (λ done. HoldsSet keying Of done new) r vs h given
      (λ done w held shown. one_item_more keying Of done w old new x held (of w shown) put)

  pub item_refused : (e : ParsingError) (h : AtSome Before Old vs) → GivesNext Shows Left (Some r) h.others
      → ((w : Value) → Shows r w → RefusesIf e ((x : X) → Of w x → ⊥))
      → RefusesIf e ((members : List X) → HoldsSet keying Of vs members → ⊥)
  item_refused e h given none =
      let n = next Shows Left r h.done h.others vs h.whole given in
      RefusesIf-along e (λ f members held. let x = item_converts keying Of vs h.done n.value n.others n.whole members
      held in f x.0 x.1) (none n.value n.shown)

-- ---- a map

module _ {R K V : Type 0} (Shows : R → Value × Value → Type 0) (keying : Keying K) (OfKey : Value → K → Type 0)
    (OfValue : Value → V → Type 0) (Before Left : List (Value × Value) → Type 0) (r : R) (old : List (K × V))
    (ps : List (Value × Value)) where
  abbrev OldMap : List (Value × Value) → Type 0
  OldMap done = HoldsMap keying OfKey OfValue done old

  pub pair_next : (new : List (K × V)) (key : K) (value : V) (h : AtSome Before OldMap ps)
      → GivesNext Shows Left (Some r) h.others
      → ((p : Value × Value) → Shows r p → OfPair OfKey OfValue p (key, value))
      → ((done : List (K × V)) → IsMerged keying done old → IsMerged keying (done ++ (key, value) ∷ []) new)
      → AtSome Left (λ done. HoldsMap keying OfKey OfValue done new) ps
  pair_next new key value h given of put =
      at_next Shows Left Before OldMap (λ done. HoldsMap keying OfKey OfValue done new) r ps h given
      (λ done p held shown. one_pair_more keying OfKey OfValue done p old new key value held (of p shown) put)

  pub pair_refused : (e : ParsingError) (h : AtSome Before OldMap ps) → GivesNext Shows Left (Some r) h.others
      → ((p : Value × Value) → Shows r p → RefusesIf e ((x : K × V) → OfPair OfKey OfValue p x → ⊥))
      → RefusesIf e ((entries : List (K × V)) → HoldsMap keying OfKey OfValue ps entries → ⊥)
  pair_refused e h given none =
      let n = next Shows Left r h.done h.others ps h.whole given in
      RefusesIf-along e (λ f entries held. let x = pair_converts keying OfKey OfValue ps h.done n.value n.others n.whole
      entries held in f x.0 x.1) (none n.value n.shown)

-- ---- a whole map or set

abbrev sequence-at : Value-F Value → Option (List Value)
sequence-at y = elim y [
  | Value-F.Array elements ↦ Some elements
  | Value-F.Set elements ↦ Some elements
  | Value-F.Nil ↦ Some []
  | _ ↦ None
]

sequence-list : (y : Value-F Value) → is_list y ≡ true → sequence-at y ≡ Some (elements_in y)
sequence-list (Value-F.Array items) is = refl
sequence-list (Value-F.Set items) is = refl
sequence-list _ is = absurd (cc)

converts-same : {X : Type 0} (Fits Alike : X → Type 0) (r : Result X ParsingError) → ((x : X) → Alike x → Fits x)
    → ((x : X) → Fits x → Alike x) → Converts Alike r → Converts Fits r
converts-same Fits Alike (Ok x) to from h = to x h
converts-same Fits Alike (Err e) to from h = RefusesIf-along e (λ none x fits. none x (from x fits)) h

pub as_set : {X S : Type 0} (keying : Keying X) (Of : Value → X → Type 0) (members : S → List X) (v : Value)
    (r : Result S ParsingError) → is_list (out-Value v) ≡ true
    → Converts (λ set. HoldsSet keying Of (elements_of v) (members set)) r
    → Converts (λ set. OfSet keying Of v (members set)) r
as_set keying Of members v r is h =
    let same = list_stripped v is in
    let found : sequence_of (stripped v) ≡ Some (elements_of v) = ap (λ w. sequence_of w) same
    ∙ sequence-list (out-Value v) is in
    converts-same (λ set. OfSet keying Of v (members set)) (λ set. HoldsSet keying Of (elements_of v) (members set)) r
    (λ set held. record { items = elements_of v; found = found; holds = held })
    (λ set of. let both : of.items ≡ elements_of v = let e = sym of.found ∙ found in cc in subst
    (λ items. HoldsSet keying Of items (members set)) both of.holds) h

abbrev pairs-at : Value-F Value → Option (List (Value × Value))
pairs-at y = elim y [
  | Value-F.Map entries ↦ Some entries
  | Value-F.Array elements ↦ cond (length elements % 2 == 0) (Some (pairs elements)) None
  | _ ↦ None
]

pairs-map : (y : Value-F Value) (w : Value) → out-Value w ≡ y → kind_in y ≡ kind.Map
    → cond (is_nil (out-Value w)) (Some []) (pairs_of w) ≡ Some (flat.pairs_in y)
pairs-map (Value-F.Map entries) w e is =
    let none : is_nil (out-Value w) ≡ false = ap is_nil e in
    let found : pairs_of w ≡ Some entries = ap pairs-at e in
    ap (λ (b : Bool). cond b (Some []) (pairs_of w)) none ∙ found
pairs-map _ w e is = absurd (cc)

pub as_map : {K V M : Type 0} (keying : Keying K) (OfKey : Value → K → Type 0) (OfValue : Value → V → Type 0)
    (entries : M → List (K × V)) (v : Value) (r : Result M ParsingError) → kind_of v ≡ kind.Map
    → Converts (λ map. HoldsMap keying OfKey OfValue (flat.pairs_of v) (entries map)) r
    → Converts (λ map. OfMap keying OfKey OfValue v (entries map)) r
as_map keying OfKey OfValue entries v r is h =
    let same = map_stripped v is in
    let found : map_pairs v ≡ Some (flat.pairs_of v) = ap (λ w. cond (is_nil (out-Value w)) (Some []) (pairs_of w)) same
    ∙ pairs-map (out-Value v) v refl is in
    converts-same (λ map. OfMap keying OfKey OfValue v (entries map))
    (λ map. HoldsMap keying OfKey OfValue (flat.pairs_of v) (entries map)) r
    (λ map held. record { pairs = flat.pairs_of v; found = found; holds = held })
    (λ map of. let both : of.pairs ≡ flat.pairs_of v = let e = sym of.found ∙ found in cc in subst
    (λ ps. HoldsMap keying OfKey OfValue ps (entries map)) both of.holds) h

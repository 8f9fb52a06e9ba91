-- Two conversions of one reply to hashed maps hold the same entries, and to hashed sets the same
-- members, in any order.
use Rattle.std.specs.Prelude.{◌≡◌, Bool, List, [], reverse, Option, option_map}
use Rattle.std.specs.Cmp.{IsPartialOrder, Agrees, ties}
use Rattle.std.specs.Ordering.{is_eq}
use Rattle.std.specs.declared.cmp.Ordering.{Ordering}
use Rattle.std.proofs.Common.{sym, ap, ◌∙◌}
use Rattle.resp_value.specs.declared.value.Value.{Value}
use Rattle.resp_containers.specs.Keyed.{hashed}
use Rattle.resp_from.specs.Maps.{OfMap, OfSet}
use Rattle.resp_laws.specs.Laws.{SameEntries, SameMembers}
use Rattle.resp_types.specs.OneValue.{GoesBySeen, IsSingleValued, pair_seen}
use Rattle.resp_types.specs.lemmas.Lists.{AreAlike}
use Rattle.resp_types.specs.lemmas.LookUps.{alike_any, alike_reversed, alike_values}
use Rattle.resp_types.specs.lemmas.Maps.{alike_entries, alike_members}

module _ {K S : Type 0} (eq : K → K → Bool) (partial : K → K → Option Ordering)
    (cmp : K → K → Ordering) (laws : IsPartialOrder eq partial) (agrees : Agrees partial cmp)
    (OfKey : Value → K → Type 0) (seen : K → S) (goes : GoesBySeen cmp seen)
    (single : IsSingleValued OfKey seen) where
  -- equality goes by what a key looks like, as the order does
  test_goes : (q x y : K) → seen x ≡ seen y → eq q x ≡ eq q y
  test_goes q x y e =
      ties laws agrees q x ∙ ap is_eq (goes x y q e) ∙ sym (ties laws agrees q y)

  pub same_hashed_maps : {V T : Type 0} (OfValue : Value → V → Type 0) (value_seen : V → T)
      → IsSingleValued OfValue value_seen → (reply : Value) (m n : List (K × V))
      → OfMap (hashed eq) OfKey OfValue reply m → OfMap (hashed eq) OfKey OfValue reply n
      → SameEntries eq value_seen m n
  same_hashed_maps OfValue value_seen value_single reply m n h k = λ key.
      let backwards : AreAlike (pair_seen seen value_seen) (reverse h.holds.converted)
      (reverse k.holds.converted) = alike_reversed (pair_seen seen value_seen) h.holds.converted
      k.holds.converted [] []
      (alike_entries (hashed eq) OfKey seen single OfValue value_seen value_single reply m n h k)
      tt in
      ap (option_map value_seen) (h.holds.merged.last_values key)
      ∙ alike_values seen (eq key) (test_goes key) value_seen (reverse h.holds.converted)
      (reverse k.holds.converted) backwards
      ∙ ap (option_map value_seen) (sym (k.holds.merged.last_values key))

  pub same_hashed_sets : (reply : Value) (m n : List K) → OfSet (hashed eq) OfKey reply m
      → OfSet (hashed eq) OfKey reply n → SameMembers eq m n
  same_hashed_sets reply m n h k = λ item.
      h.holds.deduplicated.whole item
      ∙ alike_any seen (eq item) (test_goes item) h.holds.converted k.holds.converted
      (alike_members (hashed eq) OfKey seen single reply m n h k)
      ∙ sym (k.holds.deduplicated.whole item)

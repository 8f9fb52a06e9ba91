-- A map after a slot has moved.
use Rattle.std.proofs.Common.{◌≡◌, ◌≢◌, ℕ, ◌<◌, ◌&&◌, nat_le, ◌==◌, Bool, true, false, List, Option, None, Some}
use Rattle.std.proofs.Common.{refl, sym, ap, ◌∙◌, length, arith, get_or}
use Rattle.std.specs.List.{slice_get}
use Rattle.std.specs.Option.{option_and_then, option_map_or}
use Rattle.std.proofs.lemmas.Bool.Decides.{nat_tests}
use Rattle.std.proofs.lemmas.List.Folds.{find_at, find-set, find_past, position_or_len-set}
use Rattle.std.proofs.lemmas.Option.{slice_get_within, get_or_from_slice_get}
use Rattle.resp_cluster.specs.Maps.{covers, is_of, moved, primary_at, range_at, has_own_range, place_in, with_range}
use Rattle.resp_cluster.specs.Maps.{with_primary, IsOwnPlace}
use Rattle.resp_cluster.specs.declared.node.NodeAddr.{NodeAddr}
use Rattle.resp_cluster.specs.declared.node.SlotRange.{SlotRange}

le_self : (n : ℕ) → nat_le n n ≡ true
le_self n = grind (arith, nat_tests)

has_itself : (slot : ℕ) (node : NodeAddr) → covers slot (moved slot node) ≡ true
has_itself slot node = ap (λ b. b && b) (le_self slot)

has_no_other : (slot other : ℕ) (first last : ℕ) → other ≢ slot → (first == slot) && (last == slot) ≡ true
    → nat_le first other && nat_le other last ≡ false
has_no_other slot other first last differ own = grind (arith, nat_tests)

is_of_itself : (slot : ℕ) → (slot == slot) && (slot == slot) ≡ true
is_of_itself slot = grind (arith, nat_tests)

has_the_same : (slot other first last : ℕ) → (first == slot) && (last == slot) ≡ true
    → nat_le slot other && nat_le other slot ≡ nat_le first other && nat_le other last
has_the_same slot other first last own = grind (arith, nat_tests)

-- the first range that has a slot, where that has no other
pub record OwnRange (slot : ℕ) (map : List SlotRange) : Type 0 where
  pub range : SlotRange
  pub within : place_in slot map < length map
  pub is : get_or map (place_in slot map) range ≡ range
  pub own : is_of slot range ≡ true

pub own_range : (slot : ℕ) (map : List SlotRange) → has_own_range slot map ≡ true → OwnRange slot map
own_range slot map own = by_found (slice_get map (place_in slot map)) refl
    (ap (λ range. option_map_or (is_of slot) range false) (sym (find_at (covers slot) map)) ∙ own)
  where
    by_found : (found : Option SlotRange) → slice_get map (place_in slot map) ≡ found
        → option_map_or (is_of slot) (slice_get map (place_in slot map)) false ≡ true → OwnRange slot map
    by_found None is own = cc
    by_found (Some range) is own = record {
      range = range;
      within = slice_get_within map (place_in slot map) range is;
      is = get_or_from_slice_get map (place_in slot map) range range is;
      own = ap (λ found. option_map_or (is_of slot) found false) (sym is) ∙ own;
    }

module _ (slot : ℕ) (map : List SlotRange) (place : ℕ) (at_place : place ≡ place_in slot map) where
  pub range_there : slice_get map place ≡ range_at map slot
  range_there = ap (slice_get map) at_place ∙ sym (find_at (covers slot) map)

  pub own_there : (range : SlotRange) → slice_get map place ≡ Some range → is_of slot range ≡ true
      → IsOwnPlace slot map (Some place)
  own_there range is own = (
    ap (λ found. option_map_or (is_of slot) found false) (sym range_there ∙ is) ∙ own,
    slice_get_within map place range is,
    at_place,
  )

  pub own_elsewhere : (range : SlotRange) → slice_get map place ≡ Some range → is_of slot range ≡ false
      → IsOwnPlace slot map None
  own_elsewhere range is not_own = ap (λ found. option_map_or (is_of slot) found false) (sym range_there ∙ is) ∙ not_own

  pub own_nowhere : slice_get map place ≡ None → IsOwnPlace slot map None
  own_nowhere none = ap (λ found. option_map_or (is_of slot) found false) (sym range_there ∙ none)

module _ (slot : ℕ) (node : NodeAddr) (map : List SlotRange) where
  replaced_there : OwnRange slot map → primary_at (with_range slot (moved slot node) map) slot ≡ Some node
  replaced_there r = ap (option_and_then (λ range. range.primary))
      (find-set (covers slot) map (place_in slot map) (moved slot node) refl r.within (has_itself slot node))

  replaced_elsewhere : (other : ℕ) → other ≢ slot → OwnRange slot map
      → primary_at (with_range slot (moved slot node) map) other ≡ primary_at map other
  replaced_elsewhere other differ r = ap (option_and_then (λ range. range.primary))
      (find_past (covers other) map (place_in slot map) (moved slot node) r.range
      (ap (covers other) r.is ∙ has_no_other slot other r.range.first r.range.last differ r.own)
      (has_no_other slot other slot slot differ (is_of_itself slot)))

  -- each slot is where it was
  pub same_places : (other : ℕ) → OwnRange slot map
      → place_in other (with_range slot (moved slot node) map) ≡ place_in other map
  same_places other r = position_or_len-set (covers other) map (place_in slot map) (moved slot node) r.range
      (has_the_same slot other r.range.first r.range.last r.own ∙ ap (covers other) (sym r.is))

  there : primary_at (with_primary slot node map) slot ≡ Some node
  there = by_own (has_own_range slot map) refl
    where
      by_own : (b : Bool) → has_own_range slot map ≡ b → primary_at (with_primary slot node map) slot ≡ Some node
      by_own true own = rw own (replaced_there (own_range slot map own))
      by_own false none = rw none (rw (has_itself slot node) refl)

  elsewhere : (other : ℕ) → other ≢ slot → primary_at (with_primary slot node map) other ≡ primary_at map other
  elsewhere other differ = by_own (has_own_range slot map) refl
    where
      by_own : (b : Bool) → has_own_range slot map ≡ b
          → primary_at (with_primary slot node map) other ≡ primary_at map other
      by_own true own = rw own (replaced_elsewhere other differ (own_range slot map own))
      by_own false none = rw none (rw (has_no_other slot other slot slot differ (is_of_itself slot)) refl)

-- what is then known of the slots of a map that is such
module _ (slot : ℕ) (node : NodeAddr) (old new : List SlotRange) (set_is : new ≡ with_primary slot node old) where
  pub there_then : primary_at new slot ≡ Some node
  there_then = ap (λ map. primary_at map slot) set_is ∙ there slot node old

  pub elsewhere_then : (other : ℕ) → other ≢ slot → primary_at new other ≡ primary_at old other
  elsewhere_then other differ = ap (λ map. primary_at map other) set_is ∙ elsewhere slot node old other differ

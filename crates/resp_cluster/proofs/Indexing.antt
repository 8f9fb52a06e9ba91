-- An index of slots, as ranges are entered.
use Rattle.std.proofs.Common.{◌≡◌, ◌≢◌, ℕ, ◌+◌, ◌-◌, ◌<◌, ◌≤◌, ◌&&◌, ◌==◌, nat_lt, Bool, true, false, List, ◌∷◌, Option, Some}
use Rattle.std.proofs.Common.{refl, sym, ap, ◌∙◌, length, arith, get_or, drop}
use Rattle.std.specs.List.{slice_get, slice_set}
use Rattle.std.proofs.lemmas.Bool.Decides.{nat_tests}
use Rattle.std.proofs.lemmas.Option.{slice_get_within}
use Rattle.std.proofs.lemmas.List.{length-set, length-drop, drop_more}
use Rattle.resp_cluster.specs.Maps.{covers, has_own_range, moved, place_in}
use Rattle.resp_cluster.specs.SlotIndexes.{Enters, IsEntry, IsIndex}
use Rattle.resp_cluster.proofs.Moves.{own_range, same_places}
use Rattle.resp_cluster.proofs.OneSet.{what_was_set, what_stayed}
use Rattle.resp_cluster.specs.declared.node.NodeAddr.{NodeAddr}
use Rattle.resp_cluster.specs.declared.node.SlotRange.{SlotRange}

-- a range comes before others
pub one_range_more : (range : SlotRange) (map : List SlotRange) (old new : List ℕ) (distance : ℕ)
    → distance ≡ length map + 1 → IsIndex map old → Enters range distance old new → IsIndex (range ∷ map) new
one_range_more range map old new distance far was enters slot entry is =
    by_range (covers slot range) refl (enters slot entry is)
  where
    by_range : (b : Bool) → covers slot range ≡ b → IsEntry b distance (slice_get old slot) entry
        → entry + place_in slot (range ∷ map) ≡ length (range ∷ map)
    by_range true has entry_is = rw has (omega (arith, entry_is, far))
    by_range false lacks before = rw lacks (omega (arith, was slot entry before))

-- a range was put before the others
pub put_first : (range first : SlotRange) (map items : List SlotRange) (old new : List ℕ) (distance : ℕ)
    → items ≡ range ∷ map → first ≡ get_or items 0 first → distance ≡ length items → IsIndex map old
    → Enters first distance old new → IsIndex items new
put_first range first map items old new distance items_are is far was enters =
    rw items_are (one_range_more range map old new distance (omega (arith, far, ap length items_are)) was
    (rw (sym (is ∙ ap (λ xs. get_or xs 0 first) items_are)) enters))

-- the ranges from one place further up
pub one_place_more : (ranges : List SlotRange) (place : ℕ) (range : SlotRange) (old new : List ℕ) (distance : ℕ)
    → 0 < place → place ≤ length ranges → range ≡ get_or ranges (place - 1) range
    → distance ≡ length ranges - (place - 1) → IsIndex (drop place ranges) old → Enters range distance old new
    → IsIndex (drop (place - 1) ranges) new
one_place_more ranges place range old new distance some within is far was enters =
    rw at_place (one_range_more range (drop place ranges) old new distance further was enters)
  where
    at_place : drop (place - 1) ranges ≡ range ∷ drop place ranges
    at_place = drop_more ranges (place - 1) range (omega (arith, some, within))
        ∙ ap (λ r. r ∷ drop (place - 1 + 1) ranges) (sym is)
        ∙ ap (λ k. range ∷ drop k ranges) (omega (arith, some))

    further : distance ≡ length (drop place ranges) + 1
    further = omega (arith, far, some, within, length-drop place ranges)

-- a range of one slot takes the place of another of that slot
pub same_entries : (slot : ℕ) (node : NodeAddr) (map : List SlotRange) (place : ℕ) (index : List ℕ)
    → has_own_range slot map ≡ true → place ≡ place_in slot map → IsIndex map index
    → IsIndex (slice_set map place (moved slot node)) index
same_entries slot node map place index own at_place was other entry is =
    ap (λ k. entry + place_in other (slice_set map k (moved slot node))) at_place
    ∙ ap (λ k. entry + k) (same_places slot node map other (own_range slot map own))
    ∙ was other entry is ∙ sym (length-set map place (moved slot node))

same_number : (one other : ℕ) → (one == other) ≡ true → one ≡ other
same_number one other same = grind (arith, nat_tests)

other_number : (one other : ℕ) → (one == other) ≡ false → one ≢ other
other_number one other test = grind (arith, nat_tests)

below_next : (n : ℕ) → nat_lt n (n + 1) ≡ true
below_next n = grind (arith, nat_tests)

no_further : (one other : ℕ) → (one == other) ≡ false → nat_lt one other ≡ nat_lt one (other + 1)
no_further one other differ = grind (arith, nat_tests)

-- the slots of a range that are below this one are entered
abbrev pub EntersBelow : ℕ → SlotRange → ℕ → List ℕ → List ℕ → Type 0
EntersBelow end range distance old new = (slot entry : ℕ) → slice_get new slot ≡ Some entry
    → IsEntry (covers slot range && nat_lt slot end) distance (slice_get old slot) entry

entry_if : (one other : Bool) (distance : ℕ) (before : Option ℕ) (entry : ℕ) → one ≡ other
    → IsEntry one distance before entry → IsEntry other distance before entry
entry_if one other distance before entry same is = rw (sym same) is

pub none_entered : (range : SlotRange) (distance : ℕ) (old : List ℕ) → EntersBelow range.first range distance old old
none_entered range distance old slot entry is = entry_if false (covers slot range && nat_lt slot range.first) distance
    (slice_get old slot) entry (grind (arith, nat_tests)) is

pub one_entered : (end : ℕ) (range : SlotRange) (distance : ℕ) (old new : List ℕ) → covers end range ≡ true
    → EntersBelow end range distance old new → EntersBelow (end + 1) range distance old (slice_set new end distance)
one_entered end range distance old new has before slot entry is = by_slot (slot == end) refl
  where
    by_slot : (b : Bool) → (slot == end) ≡ b
        → IsEntry (covers slot range && nat_lt slot (end + 1)) distance (slice_get old slot) entry
    by_slot true same = entry_if true (covers slot range && nat_lt slot (end + 1)) distance (slice_get old slot) entry
        (sym (ap (λ k. covers k range && nat_lt k (end + 1)) (same_number slot end same)
        ∙ ap (λ b. b && nat_lt end (end + 1)) has ∙ below_next end))
        (what_was_set new end distance entry (ap (slice_get (slice_set new end distance)) (sym (same_number slot end same)) ∙ is))
    by_slot false differ = entry_if (covers slot range && nat_lt slot end) (covers slot range && nat_lt slot (end + 1))
        distance (slice_get old slot) entry (ap (λ b. covers slot range && b) (no_further slot end differ))
        (before slot entry (what_stayed new end slot distance entry (other_number slot end differ) is))

pub all_entered : (end : ℕ) (range : SlotRange) (distance : ℕ) (old new : List ℕ) → EntersBelow end range distance old new
    → ((slot : ℕ) → slot < length new → covers slot range && nat_lt slot end ≡ covers slot range)
    → Enters range distance old new
all_entered end range distance old new entered tests slot entry is =
    entry_if (covers slot range && nat_lt slot end) (covers slot range) distance (slice_get old slot) entry
    (tests slot (slice_get_within new slot entry is)) (entered slot entry is)

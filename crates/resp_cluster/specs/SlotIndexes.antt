-- An index of a map's ranges by slots.
use Rattle.std.specs.Prelude.{◌≡◌, ℕ, ◌+◌, Bool, true, false, List, Option, Some, length, slice_get}
use Rattle.resp_cluster.specs.Maps.{covers, place_in}
use Rattle.resp_cluster.specs.declared.node.SlotRange.{SlotRange}

-- each entry is how far from the end of the map the first range stands that has the slot, and 0 where none has it
abbrev pub IsIndex : List SlotRange → List ℕ → Type 0
IsIndex map index = (slot distance : ℕ) → slice_get index slot ≡ Some distance → distance + place_in slot map ≡ length map

-- the entry of a slot that a range has is this distance, and that of another is as before
abbrev pub IsEntry : Bool → ℕ → Option ℕ → ℕ → Type 0
IsEntry true distance before entry = entry ≡ distance
IsEntry false distance before entry = before ≡ Some entry

-- this distance is entered for the slots of a range
abbrev pub Enters : SlotRange → ℕ → List ℕ → List ℕ → Type 0
Enters range distance old new = (slot entry : ℕ) → slice_get new slot ≡ Some entry
    → IsEntry (covers slot range) distance (slice_get old slot) entry

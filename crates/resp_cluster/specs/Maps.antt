-- Which nodes serve which slots.
use Rattle.std.specs.Prelude.{◌≡◌, ℕ, ◌<◌, ◌==◌, Bool, true, false, ◌&&◌, nat_le, List, [], ◌∷◌, Option, None}
use Rattle.std.specs.Prelude.{Some, find}
use Rattle.std.specs.Prelude.{◌%◌, length, slice_get, slice_set, if◌then◌else◌}
use Rattle.std.specs.List.{position_or_len}
use Rattle.std.specs.Option.{option_and_then, option_map_or}
use Rattle.resp_cluster.specs.declared.node.NodeAddr.{NodeAddr}
use Rattle.resp_cluster.specs.declared.node.SlotRange.{SlotRange}

-- the range has this slot
abbrev pub covers : ℕ → SlotRange → Bool
covers slot range = nat_le range.first slot && nat_le slot range.last

-- the first range that has this slot, of a map
abbrev pub range_at : List SlotRange → ℕ → Option SlotRange
range_at ranges slot = find (covers slot) ranges

-- the range of a slot that moved: its new primary, and no replica that is known
abbrev pub moved : ℕ → NodeAddr → SlotRange
moved slot node = record { first = slot; last = slot; primary = Some node; replicas = [] }

-- the primary of a slot, if the map knows one
abbrev pub primary_at : List SlotRange → ℕ → Option NodeAddr
primary_at map slot = option_and_then (λ range. range.primary) (range_at map slot)

-- the node of a range that serves reads of this slot: one of its replicas, by the slot, or its primary where none is known
abbrev pub reader_among : ℕ → List NodeAddr → Option NodeAddr → Option NodeAddr
reader_among slot [] primary = primary
reader_among slot (node ∷ replicas) primary = slice_get (node ∷ replicas) (slot % length (node ∷ replicas))

abbrev pub reader_at : List SlotRange → ℕ → Option NodeAddr
reader_at map slot = option_and_then (λ range. reader_among slot range.replicas range.primary) (range_at map slot)

-- the range has this slot and no other
abbrev pub is_of : ℕ → SlotRange → Bool
is_of slot range = (range.first == slot) && (range.last == slot)

-- the first range that has this slot has no other
abbrev pub has_own_range : ℕ → List SlotRange → Bool
has_own_range slot map = option_map_or (is_of slot) (range_at map slot) false

-- the place of the first range that has this slot, or how many ranges there are where none has it
abbrev pub place_in : ℕ → List SlotRange → ℕ
place_in slot map = position_or_len (covers slot) map

-- a map with this range in place of the first that has this slot
abbrev pub with_range : ℕ → SlotRange → List SlotRange → List SlotRange
with_range slot new map = slice_set map (place_in slot map) new

-- a map that says that a slot is at this node: in a range of its own, where it had one, or before all others
abbrev pub with_primary : ℕ → NodeAddr → List SlotRange → List SlotRange
with_primary slot node map =
    if has_own_range slot map then with_range slot (moved slot node) map else moved slot node ∷ map

-- the place of the first range that has this slot, if that has no other
abbrev pub IsOwnPlace : ℕ → List SlotRange → Option ℕ → Type 0
IsOwnPlace slot map None = has_own_range slot map ≡ false
IsOwnPlace slot map (Some place) = (has_own_range slot map ≡ true) × (place < length map) × (place ≡ place_in slot map)

-- What a reply to CLUSTER SHARDS says: of each shard its slots and its nodes, as maps, or as lists of keys and values.
use Rattle.std.specs.Prelude.{◌≡◌, ◌≢◌, ℕ, Bool, false, List, [], ◌∷◌, ◌++◌, Option, None, Some, find, map, option_map}
use Rattle.std.specs.Prelude.{Result, Ok, Err, MatchResult, codes, if◌then◌else◌}
use Rattle.std.specs.Option.{option_and_then, option_map_or}
use Rattle.std.specs.Str.{bytes_eq}
use Rattle.resp_value.specs.Views.{pairs_of}
use Rattle.resp_value.specs.declared.value.Value.{Value, out-Value}
use Rattle.resp_value.specs.declared.value.Value.TheOpen.{Value-F}
use Rattle.resp_cluster.specs.Replies.{chained, number_below, slots_in, host_in, address, with_node}
use Rattle.resp_cluster.specs.declared.node.NodeAddr.{NodeAddr}
use Rattle.resp_cluster.specs.declared.node.PortKind.{PortKind}
use Rattle.resp_cluster.specs.declared.node.PortKind.TheVariants.{Plain, Tls}
use Rattle.resp_cluster.specs.declared.node.SlotRange.{SlotRange}
use Rattle.resp_cluster.specs.declared.node.TopologyError.{TopologyError}
use Rattle.resp_cluster.specs.declared.node.TopologyError.TheVariants.{BadShape, BadSlots, BadNode, OutOfMemory}
use Rattle.resp_cluster.specs.declared.shards_reply.Served.{Served}

-- the value is this text, as a bulk string
abbrev pub is_text : List ℕ → Value → Bool
is_text text value = elim (out-Value value) [ Value-F.BulkString bytes ↦ bytes_eq bytes text | _ ↦ false ]

-- the value of the first key that is this text
abbrev pub entry_of : List ℕ → List (Value × Value) → Option Value
entry_of key entries = option_map (λ entry. entry.1) (find (λ entry. is_text key entry.0) entries)

-- the value of this key of a map
abbrev pub field_in : List ℕ → Value → Option Value
field_in key value = option_and_then (entry_of key) (pairs_of value)

-- the elements of an array
abbrev pub elements_of : Option Value → Result (List Value) TopologyError
elements_of None = Err BadShape
elements_of (Some value) = elim (out-Value value) [ Value-F.Array elements ↦ Ok elements | _ ↦ Err BadShape ]

-- slots two by two: the first and the last of each range
abbrev pub slot_pairs : List Value → Result (List (ℕ × ℕ)) TopologyError
slot_pairs [] = Ok []
slot_pairs (first ∷ []) = Err BadSlots
slot_pairs (first ∷ last ∷ rest) =
    chained (slots_in (number_below 16384 first) (number_below 16384 last)) (λ slots.
    chained (slot_pairs rest) (λ more. Ok (slots ∷ more)))

abbrev pub port_name : PortKind → List ℕ
port_name Plain = codes "port"
port_name Tls = codes "tls-port"

-- the host that a field names
abbrev pub host_field : List ℕ → Option Value → Result (Option (List ℕ)) TopologyError
host_field asked None = Err BadNode
host_field asked (Some host) = host_in asked host

-- the address of a node, if its host is known
abbrev pub addr_in : List ℕ → PortKind → Value → Result (Option NodeAddr) TopologyError
addr_in asked kind node =
    chained (host_field asked (field_in (codes "endpoint") node)) (λ host.
    address host (option_and_then (number_below 65536) (field_in (port_name kind) node)))

-- the node's role is that of a primary
abbrev pub is_primary : Value → Bool
is_primary node = option_map_or (is_text (codes "master")) (field_in (codes "role") node) false

-- the address of the first primary of some nodes
abbrev pub primary_in : List ℕ → PortKind → List Value → Result (Option NodeAddr) TopologyError
primary_in asked kind [] = Ok None
primary_in asked kind (node ∷ nodes) = if is_primary node then addr_in asked kind node else primary_in asked kind nodes

-- the addresses of the others, but for those whose host isn't known
abbrev pub replicas_in : List ℕ → PortKind → List Value → Result (List NodeAddr) TopologyError
replicas_in asked kind [] = Ok []
replicas_in asked kind (node ∷ nodes) =
    if is_primary node then replicas_in asked kind nodes
    else chained (addr_in asked kind node) (λ addr.
    chained (replicas_in asked kind nodes) (λ more. Ok (with_node addr more)))

-- the nodes that serve a shard
abbrev pub served_by : List ℕ → PortKind → List Value → Result Served TopologyError
served_by asked kind nodes =
    chained (primary_in asked kind nodes) (λ primary.
    chained (replicas_in asked kind nodes) (λ replicas. Ok (record { primary = primary; replicas = replicas })))

-- a range of slots that these nodes serve
abbrev pub range_of_shard : Served → ℕ × ℕ → SlotRange
range_of_shard served slots =
    record { first = slots.0; last = slots.1; primary = served.primary; replicas = served.replicas }

-- the ranges of a shard
abbrev pub shard_in : List ℕ → PortKind → Value → Result (List SlotRange) TopologyError
shard_in asked kind shard =
    chained (elements_of (field_in (codes "slots") shard)) (λ slots.
    chained (slot_pairs slots) (λ pairs.
    chained (elements_of (field_in (codes "nodes") shard)) (λ nodes.
    chained (served_by asked kind nodes) (λ served.
    Ok (map (range_of_shard served) pairs)))))

abbrev pub shards_in : List ℕ → PortKind → List Value → Result (List SlotRange) TopologyError
shards_in asked kind [] = Ok []
shards_in asked kind (shard ∷ shards) =
    chained (shard_in asked kind shard) (λ ranges.
    chained (shards_in asked kind shards) (λ more. Ok (ranges ++ more)))

-- the map that a reply gives: the ranges of its shards, in order
abbrev pub map_of_shards : List ℕ → PortKind → Value → Result (List SlotRange) TopologyError
map_of_shards asked kind reply = elim (out-Value reply) [ Value-F.Array shards ↦ shards_in asked kind shards | _ ↦ Err BadShape ]

-- a call appends these ranges, or is refused as they are; it may run out of memory, too
abbrev pub AddsAll : Result (List SlotRange) TopologyError → List SlotRange → List SlotRange → Result (Unit {0}) TopologyError → Type 0
AddsAll wanted old new result =
    MatchResult result (λ _. chained wanted (λ ranges. Ok (old ++ ranges)) ≡ Ok new) (λ e. e ≢ OutOfMemory → wanted ≡ Err e)

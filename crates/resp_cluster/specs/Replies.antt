-- What a reply to CLUSTER SLOTS says.
use Rattle.std.specs.Prelude.{◌≡◌, ◌≢◌, ℕ, ◌==◌, nat_le, nat_lt, List, [], ◌∷◌, Option, None, Some, pos}
use Rattle.std.specs.Prelude.{Result, Ok, Err, MatchResult, codes, if◌then◌else◌, length}
use Rattle.std.specs.Borrow.{Bor}
use Rattle.std.specs.Option.{option_copied}
use Rattle.std.specs.Str.{is_utf8, bytes_eq}
use Rattle.resp_value.specs.declared.value.Value.{Value, out-Value}
use Rattle.resp_value.specs.declared.value.Value.TheOpen.{Value-F}
use Rattle.resp_cluster.specs.declared.node.NodeAddr.{NodeAddr}
use Rattle.resp_cluster.specs.declared.node.SlotRange.{SlotRange}
use Rattle.resp_cluster.specs.declared.node.TopologyError.{TopologyError}
use Rattle.resp_cluster.specs.declared.node.TopologyError.TheVariants.{BadShape, BadSlots, BadNode, OutOfMemory}

-- what is made of a value, if there is one
abbrev pub chained : {A B : Type 0} → Result A TopologyError → (A → Result B TopologyError) → Result B TopologyError
chained (Ok x) next = next x
chained (Err e) next = Err e

-- the number, if it is one of those below this
abbrev pub number_below : ℕ → Value → Option ℕ
number_below most value = elim (out-Value value) [
  | Value-F.Int (pos n) ↦ if nat_lt n most then Some n else None
  | _ ↦ None
]

-- the first and the last slot of a range
abbrev pub slots_in : Option ℕ → Option ℕ → Result (ℕ × ℕ) TopologyError
slots_in (Some first) (Some last) = if nat_le first last then Ok (first, last) else Err BadSlots
slots_in first last = Err BadSlots

-- the host that a text names: none of its own is the one that was asked, and "?" isn't known
abbrev pub host_named : List ℕ → List ℕ → Result (Option (List ℕ)) TopologyError
host_named asked text =
    if length text == 0 then Ok (Some asked)
    else (if bytes_eq text (codes "?") then Ok None
    else (if is_utf8 text then Ok (Some text) else Err BadNode))

abbrev pub host_in : List ℕ → Value → Result (Option (List ℕ)) TopologyError
host_in asked value = elim (out-Value value) [
  | Value-F.Nil ↦ Ok (Some asked)
  | Value-F.BulkString text ↦ host_named asked text
  | _ ↦ Err BadNode
]

-- the address of this host and port, if both are known
abbrev pub address : Option (List ℕ) → Option ℕ → Result (Option NodeAddr) TopologyError
address (Some host) (Some port) = Ok (Some (record { host = host; port = port }))
address None (Some port) = Ok None
address host None = Err BadNode

-- the address of a node: a host, a port and more
abbrev pub node_of : List ℕ → List Value → Result (Option NodeAddr) TopologyError
node_of asked (host ∷ port ∷ more) = chained (host_in asked host) (λ h. address h (number_below 65536 port))
node_of asked parts = Err BadNode

abbrev pub node_in : List ℕ → Value → Result (Option NodeAddr) TopologyError
node_in asked value = elim (out-Value value) [ Value-F.Array parts ↦ node_of asked parts | _ ↦ Err BadNode ]

-- a list with one more in front, if it is one
abbrev pub with_node : Option NodeAddr → List NodeAddr → List NodeAddr
with_node None nodes = nodes
with_node (Some node) nodes = node ∷ nodes

-- the addresses of nodes, but for those whose host isn't known
abbrev pub nodes_in : List ℕ → List Value → Result (List NodeAddr) TopologyError
nodes_in asked [] = Ok []
nodes_in asked (value ∷ values) =
    chained (node_in asked value) (λ node. chained (nodes_in asked values) (λ nodes. Ok (with_node node nodes)))

-- a range of these slots: its primary and its replicas
abbrev pub range_over : List ℕ → ℕ → ℕ → List Value → Result SlotRange TopologyError
range_over asked first last (primary ∷ replicas) =
    chained (node_in asked primary) (λ node. chained (nodes_in asked replicas) (λ nodes.
    Ok (record { first = first; last = last; primary = node; replicas = nodes })))
range_over asked first last [] = Err BadShape

-- an entry: the first and the last slot, and nodes
abbrev pub range_of : List ℕ → List Value → Result SlotRange TopologyError
range_of asked (first ∷ last ∷ nodes) =
    chained (slots_in (number_below 16384 first) (number_below 16384 last)) (λ slots. range_over asked slots.0 slots.1 nodes)
range_of asked parts = Err BadShape

abbrev pub range_in : List ℕ → Value → Result SlotRange TopologyError
range_in asked value = elim (out-Value value) [ Value-F.Array parts ↦ range_of asked parts | _ ↦ Err BadShape ]

abbrev pub ranges_in : List ℕ → List Value → Result (List SlotRange) TopologyError
ranges_in asked [] = Ok []
ranges_in asked (value ∷ values) =
    chained (range_in asked value) (λ range. chained (ranges_in asked values) (λ ranges. Ok (range ∷ ranges)))

-- the map that a reply gives: the ranges of its entries, in order
abbrev pub map_in : List ℕ → Value → Result (List SlotRange) TopologyError
map_in asked reply = elim (out-Value reply) [ Value-F.Array entries ↦ ranges_in asked entries | _ ↦ Err BadShape ]

-- a call gives what it is to give, or is refused as it is; it may run out of memory, too
abbrev pub Gives : {A : Type 0} → Result A TopologyError → Result A TopologyError → Type 0
Gives wanted result = MatchResult result (λ x. wanted ≡ Ok x) (λ e. e ≢ OutOfMemory → wanted ≡ Err e)

-- the same of a borrowed text
abbrev pub IsHost : Result (Option (List ℕ)) TopologyError → Result (Option (Bor (List ℕ))) TopologyError → Type 0
IsHost wanted result = MatchResult result (λ host. wanted ≡ Ok (option_copied host)) (λ e. wanted ≡ Err e)

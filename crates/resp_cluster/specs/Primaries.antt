-- The primaries of a map.
use Rattle.std.specs.Prelude.{◌≡◌, ◌≢◌, ◌⊎◌, ℕ, ◌<◌, List, [], ◌∷◌, ◌++◌, Contains, Option, None, Some}
use Rattle.std.specs.Prelude.{length, slice_index_or}
use Rattle.std.specs.List.{FoldsTo}
use Rattle.resp_cluster.specs.declared.node.NodeAddr.{NodeAddr}
use Rattle.resp_cluster.specs.declared.node.SlotRange.{SlotRange}

-- this node is a primary in a map
abbrev pub IsPrimaryIn : List SlotRange → NodeAddr → Type 0
IsPrimaryIn map node = (range : SlotRange) × (Contains map range × (range.primary ≡ Some node))

-- this node is a replica in a map
abbrev pub IsReplicaIn : List SlotRange → NodeAddr → Type 0
IsReplicaIn map node = (range : SlotRange) × (Contains map range × Contains range.replicas node)

-- no two are equal
abbrev pub AreDistinct : List NodeAddr → Type 0
AreDistinct nodes = (i j : ℕ) (a b : NodeAddr) → i < j → j < length nodes
    → slice_index_or nodes i a ≢ slice_index_or nodes j b

-- these nodes are so, each once
pub record AreSome (IsSo : NodeAddr → Type 0) (nodes : List NodeAddr) : Type 0 where
  pub listed : (node : NodeAddr) → Contains nodes node → IsSo node
  pub distinct : AreDistinct nodes

-- these are the nodes that are so, each once
pub record AreAll (IsSo : NodeAddr → Type 0) (nodes : List NodeAddr) : Type 0 where
  pub some : AreSome IsSo nodes
  pub complete : (node : NodeAddr) → IsSo node → Contains nodes node

-- these are the primaries of a map, each once
abbrev pub ArePrimaries : List SlotRange → List NodeAddr → Type 0
ArePrimaries map nodes = AreAll (IsPrimaryIn map) nodes

-- these are the primaries and replicas of a map, each once
abbrev pub AreNodes : List SlotRange → List NodeAddr → Type 0
AreNodes map nodes = AreAll (λ node. IsPrimaryIn map node ⊎ IsReplicaIn map node) nodes

-- the primary of a range that is that of none of these, if it has one
abbrev pub IsNewPrimary : List SlotRange → SlotRange → Option NodeAddr → Type 0
IsNewPrimary before range None = (node : NodeAddr) → range.primary ≡ Some node → IsPrimaryIn before node
IsNewPrimary before range (Some node) = (range.primary ≡ Some node) × (IsPrimaryIn before node → ⊥)

-- nodes and one more, unless it is among them
abbrev pub IsWithNew : NodeAddr → List NodeAddr → List NodeAddr → Type 0
IsWithNew node old new = (Contains old node × (new ≡ old)) ⊎ ((Contains old node → ⊥) × (new ≡ old ++ node ∷ []))

-- nodes, and each of these unless it is among them
abbrev pub AreWithNew : List NodeAddr → List NodeAddr → List NodeAddr → Type 0
AreWithNew more old new = FoldsTo (λ before node after. IsWithNew node before after) old more new

-- nodes and the primary of a range, if it has one
abbrev pub IsWithPrimary : Option NodeAddr → List NodeAddr → List NodeAddr → Type 0
IsWithPrimary None old new = new ≡ old
IsWithPrimary (Some node) old new = IsWithNew node old new

-- nodes, and those of a range
pub record AreWithRange (range : SlotRange) (old new : List NodeAddr) : Type 0 where
  pub between : List NodeAddr
  pub primary : IsWithPrimary range.primary old between
  pub replicas : AreWithNew range.replicas between new

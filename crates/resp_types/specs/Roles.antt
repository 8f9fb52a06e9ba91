-- What a server says of its part in replication (Redis, ROLE; RESP, "Arrays").
use Rattle.std.specs.Prelude.{◌≡◌, ℕ, ℤ, List, [], ◌∷◌, false, codes, Some, None}
use Rattle.std.specs.Int.{w64}
use Rattle.resp_value.specs.declared.value.Value.{Value, out-Value}
use Rattle.resp_value.specs.declared.value.Value.TheOpen.{Value-F}
use Rattle.resp_value.specs.Views.{sequence_of}
use Rattle.resp_from.specs.Attributes.{stripped}
use Rattle.resp_from.specs.Integers.{OfInteger, SignedNumber, SignedText, UnsignedNumber, UnsignedText}
use Rattle.resp_from.specs.Lists.{OfVec}
use Rattle.resp_from.specs.Texts.{OfText}
use Rattle.resp_from.specs.Tuples.{First}
use Rattle.resp_types.specs.declared.role.ReplicaInfo.{ReplicaInfo}
use Rattle.resp_types.specs.declared.role.Role.{Role}
use Rattle.resp_types.specs.declared.role.Role.TheVariants.{Primary, Replica, Sentinel}

-- the reply is this unsigned number of k bits
abbrev pub OfUnsigned : ℕ → Value → ℕ → Type 0
OfUnsigned k = OfInteger (UnsignedNumber k) (UnsignedText k)

-- the reply is this integer of 64 bits
abbrev pub OfSigned : Value → ℤ → Type 0
OfSigned = OfInteger (SignedNumber w64) (SignedText w64)

-- more items are ignored
abbrev pub Ignored : List Value → Type 0
Ignored items = Unit {0}

-- the items of a reply without its attribute are as the fact says
abbrev pub HasItems : Value → (List Value → Type 0) → Type 0
HasItems reply Are = elim (sequence_of (stripped reply)) [ Some items ↦ Are items | None ↦ ⊥ ]

-- the reply is a list of an address, a port and an offset
abbrev pub OfReplica : Value → ReplicaInfo → Type 0
OfReplica reply info = HasItems reply
    (First OfText info.ip
    (First (OfUnsigned 16) info.port
    (First OfSigned info.replication_offset Ignored)))

-- what follows the name of a role is what this role has
abbrev pub HasRole : List ℕ → List Value → Role → Type 0
HasRole name items (Primary offset replicas) = (name ≡ codes "master")
    × First (OfUnsigned 64) offset (First (OfVec 0 false OfReplica) replicas Ignored) items
HasRole name items (Replica ip port state received) = (name ≡ codes "slave")
    × First OfText ip
    (First (OfUnsigned 16) port
    (First OfText state
    (First (OfUnsigned 64) received Ignored))) items
HasRole name items (Sentinel names) = (name ≡ codes "sentinel")
    × First (OfVec 0 false OfText) names Ignored items

-- the items are a name, which is a bulk string, and what the role of this name has
abbrev pub AreRole : List Value → Role → Type 0
AreRole [] role = ⊥
AreRole (first ∷ items) role = elim (out-Value first) [
  | Value-F.BulkString name ↦ HasRole name items role
  | _ ↦ ⊥
]

-- the reply says this role
abbrev pub OfRole : Value → Role → Type 0
OfRole reply role = HasItems reply (λ items. AreRole items role)

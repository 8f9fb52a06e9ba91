-- The elements of which each role is made.
use Rattle.std.proofs.Common.{◌≡◌, ℕ, false, List, [], ◌∷◌, codes, length, Option, None, Some, Result, Ok, Global}
use Rattle.std.proofs.Common.{MatchOption, IsErrAnd, IsOkAnd, ap, sym, subst, arith}
use Rattle.std.specs.declared.vec.IntoIter.{IntoIter}
use Rattle.std.specs.Vec.Iter.{into_iter_items}
use Rattle.resp_errors.specs.declared.parsing_error.ParsingError.{ParsingError}
use Rattle.resp_value.specs.declared.value.Value.{Value}
use Rattle.resp_value.specs.Views.{sequence_of}
use Rattle.resp_from.specs.Attributes.{stripped}
use Rattle.resp_from.specs.Conversion.{Converts, IsDescribed}
use Rattle.resp_from.specs.Lists.{OfVec}
use Rattle.resp_from.specs.Texts.{OfText}
use Rattle.resp_from.specs.Tuples.{First}
use Rattle.resp_types.specs.declared.role.ReplicaInfo.{ReplicaInfo}
use Rattle.resp_types.specs.declared.role.Role.{Role}
use Rattle.resp_types.specs.declared.role.Role.TheVariants.{Primary, Replica, Sentinel}
use Rattle.resp_types.specs.Roles.{AreRole, HasRole, Ignored, OfReplica, OfRole, OfUnsigned}

pub primary_elements : (items : List Value) (role : Role) → HasRole (codes "master") items role
    → (offset : ℕ) × (replicas : List ReplicaInfo)
    × First (OfUnsigned 64) offset (First (OfVec 0 false OfReplica) replicas Ignored) items
primary_elements items (Primary offset replicas) h = (offset, replicas, h.1)
primary_elements items (Replica ip port state received) h = absurd (omega (arith, ap length h.0))
primary_elements items (Sentinel names) h = absurd (omega (arith, ap length h.0))

pub replica_elements : (items : List Value) (role : Role) → HasRole (codes "slave") items role
    → (ip : List ℕ) × (port : ℕ) × (state : List ℕ) × (received : ℕ)
    × First OfText ip (First (OfUnsigned 16) port (First OfText state (First (OfUnsigned 64) received Ignored))) items
replica_elements items (Primary offset replicas) h = absurd (omega (arith, ap length h.0))
replica_elements items (Replica ip port state received) h = (ip, port, state, received, h.1)
replica_elements items (Sentinel names) h = absurd (omega (arith, ap length h.0))

pub sentinel_elements : (items : List Value) (role : Role) → HasRole (codes "sentinel") items role
    → (names : List (List ℕ)) × First (OfVec 0 false OfText) names Ignored items
sentinel_elements items (Primary offset replicas) h = absurd (omega (arith, ap length h.0))
sentinel_elements items (Replica ip port state received) h = absurd (omega (arith, ap length h.0))
sentinel_elements items (Sentinel names) h = (names, h.1)

-- no items are no role
pub no_role : (items : List Value) → items ≡ [] → (role : Role) → AreRole items role → ⊥
no_role [] e role h = h
no_role (first ∷ items) e role h = absurd (omega (arith, ap length e))

-- the items of a reply, from the call that found them
pub items_found : (o : Option (List Value)) (r : Result (IntoIter Value Global) ParsingError)
    (it : IntoIter Value Global)
    → MatchOption o (IsErrAnd r IsDescribed) (λ items. IsOkAnd r (λ i. into_iter_items i ≡ items))
    → r ≡ Ok it → o ≡ Some (into_iter_items it)
items_found None r it h e = absurd (subst (λ q. IsErrAnd q IsDescribed) e h)
items_found (Some items) r it h e =
    ap Some (sym (subst (λ q. IsOkAnd q (λ i. into_iter_items i ≡ items)) e h))

-- what converts of the items converts of the reply
pub by_items : (reply : Value) (items : List Value) (r : Result Role ParsingError)
    → sequence_of (stripped reply) ≡ Some items → Converts (AreRole items) r
    → Converts (OfRole reply) r
by_items reply items r e h =
    subst (λ o. Converts (λ role. elim o [ Some all ↦ AreRole all role | None ↦ ⊥ ]) r) (sym e) h

-- The nodes of a map with one range more.
use Rattle.std.proofs.Common.{◌≡◌, ℕ, ◌+◌, ◌<◌, List, [], ◌∷◌, ◌++◌, length, take, get_or, Option, None, Some, ◌⊎◌, inl, inr, ⊎_elim}
use Rattle.std.proofs.Common.{refl, sym, ap, subst, ◌∙◌, arith, length-append, suc, zero}
use Rattle.std.specs.List.{Contains}
use Rattle.std.proofs.lemmas.Fn.{FoldsTo-push}
use Rattle.std.proofs.lemmas.List.{take_more, get_or_default}
use Rattle.std.proofs.lemmas.List.Elements.{Contains-append_left, Contains-append_right, Contains-append_cases}
use Rattle.std.proofs.Math.ListN.{get_or-append}
use Rattle.std.proofs.Math.Seq.{get_or-append_seam}
use Rattle.std.proofs.lemmas.Bool.{cases_lt}
use Rattle.resp_cluster.specs.Primaries.{AreAll, AreDistinct, AreNodes, ArePrimaries, AreWithNew, AreWithRange, IsPrimaryIn, IsReplicaIn}
use Rattle.resp_cluster.specs.Primaries.{IsWithNew, IsWithPrimary}
use Rattle.resp_cluster.specs.declared.node.NodeAddr.{NodeAddr}
use Rattle.resp_cluster.specs.declared.node.SlotRange.{SlotRange}

only : {X : Type 0} (x y : X) → Contains (x ∷ []) y → x ≡ y
only x y (zero, lt, is) = is
only x y (suc k, lt, is) = absurd (omega (arith, lt))

the_one : {X : Type 0} (x : X) → Contains (x ∷ []) x
the_one x = (0, omega arith, refl)

none_in : {X : Type 0} (x : X) → Contains [] x → ⊥
none_in x has = absurd (let lt = has.1 in omega (arith, lt))

-- ---- all that are so, and one more

nobody : (IsSo : NodeAddr → Type 0) → ((node : NodeAddr) → IsSo node → ⊥) → AreAll IsSo []
nobody IsSo none = record {
  some = record {
    listed = λ node has. absurd (none_in node has);
    distinct = λ i j a b lt within. absurd (omega (arith, within));
  };
  complete = λ node is. absurd (none node is);
}

-- all that are so are all that are otherwise so
also : (IsSo IsToo : NodeAddr → Type 0) → ((node : NodeAddr) → IsSo node → IsToo node)
    → ((node : NodeAddr) → IsToo node → IsSo node) → (nodes : List NodeAddr) → AreAll IsSo nodes → AreAll IsToo nodes
also IsSo IsToo on back nodes are = record {
  some = record { listed = λ node has. on node (are.some.listed node has); distinct = are.some.distinct };
  complete = λ node is. are.complete node (back node is);
}

module _ (IsSo : NodeAddr → Type 0) (node : NodeAddr) (nodes : List NodeAddr) (are : AreAll IsSo nodes) where
  abbrev OrThis : NodeAddr → Type 0
  OrThis other = IsSo other ⊎ (node ≡ other)

  known : Contains nodes node → AreAll OrThis nodes
  known has = record {
    some = record { listed = λ other listed. inl (are.some.listed other listed); distinct = are.some.distinct };
    complete = λ other is. ⊎_elim (are.complete other) (λ same. subst (Contains nodes) same has) is;
  }

  added : (Contains nodes node → ⊥) → AreAll OrThis (nodes ++ node ∷ [])
  added new = record {
    some = record {
      listed = λ other has. ⊎_elim (λ before. inl (are.some.listed other before)) (λ last. inr (only node other last))
          (Contains-append_cases nodes (node ∷ []) other has);
      distinct = apart;
    };
    complete = λ other is. ⊎_elim (λ before. Contains-append_left nodes (node ∷ []) other (are.complete other before))
        (λ same. subst (Contains (nodes ++ node ∷ [])) same (Contains-append_right nodes (node ∷ []) node (the_one node))) is;
  }
    where
      apart : AreDistinct (nodes ++ node ∷ [])
      apart i j a b lt within same = ⊎_elim
          (λ before. are.some.distinct i j a b lt before (sym (get_or-append nodes (node ∷ []) a i (omega (arith, lt, before)))
          ∙ same ∙ get_or-append nodes (node ∷ []) b j before))
          (λ last. let count = length-append nodes (node ∷ []) in
          let at_end : j ≡ length nodes = omega (arith, last, within, count) in
          new (
            i,
            omega (arith, lt, at_end),
            sym (get_or-append nodes (node ∷ []) node i (omega (arith, lt, at_end)))
                ∙ get_or_default (nodes ++ node ∷ []) i node a (omega (arith, lt, within))
                ∙ same ∙ ap (λ k. get_or (nodes ++ node ∷ []) k b) at_end ∙ get_or-append_seam nodes node [] b,
          ))
          (cases_lt j (length nodes))

  with_new : (new : List NodeAddr) → IsWithNew node nodes new → AreAll OrThis new
  with_new new (inl (has, same)) = subst (AreAll OrThis) (sym same) (known has)
  with_new new (inr (new_one, same)) = subst (AreAll OrThis) (sym same) (added new_one)

first_or_rest : (node other : NodeAddr) (more : List NodeAddr) → Contains (node ∷ more) other → (node ≡ other) ⊎ Contains more other
first_or_rest node other more has = ⊎_elim (λ first. inl (only node other first)) inr (Contains-append_cases (node ∷ []) more other has)

with_all_new : (IsSo : NodeAddr → Type 0) (more nodes new : List NodeAddr) → AreAll IsSo nodes → AreWithNew more nodes new
    → AreAll (λ n. IsSo n ⊎ Contains more n) new
with_all_new IsSo [] nodes new are same = subst (AreAll (λ n. IsSo n ⊎ Contains [] n)) same
    (also IsSo (λ n. IsSo n ⊎ Contains [] n) (λ n is. inl is) (λ n is. ⊎_elim (λ so. so) (λ has. absurd (none_in n has)) is) nodes are)
with_all_new IsSo (node ∷ more) nodes new are (between, one, rest) =
    also (λ n. (IsSo n ⊎ (node ≡ n)) ⊎ Contains more n) (λ n. IsSo n ⊎ Contains (node ∷ more) n)
    (λ n is. ⊎_elim (λ first. ⊎_elim inl (λ same. inr (subst (Contains (node ∷ more)) same (Contains-append_left (node ∷ []) more node (the_one node)))) first)
    (λ later. inr (Contains-append_right (node ∷ []) more n later)) is)
    (λ n is. ⊎_elim (λ so. inl (inl so)) (λ has. ⊎_elim (λ same. inl (inr same)) inr (first_or_rest node n more has)) is)
    new (with_all_new (λ n. IsSo n ⊎ (node ≡ n)) more between new (with_new IsSo node nodes are between one) rest)

with_optional : (IsSo : NodeAddr → Type 0) (primary : Option NodeAddr) (nodes new : List NodeAddr) → AreAll IsSo nodes
    → IsWithPrimary primary nodes new → AreAll (λ n. IsSo n ⊎ (primary ≡ Some n)) new
with_optional IsSo None nodes new are same = subst (AreAll (λ n. IsSo n ⊎ (None ≡ Some n))) (sym same)
    (also IsSo (λ n. IsSo n ⊎ (None ≡ Some n)) (λ n is. inl is) (λ n is. ⊎_elim (λ so. so) (λ none. absurd (let e = none in cc)) is) nodes are)
with_optional IsSo (Some node) nodes new are one = also (λ n. IsSo n ⊎ (node ≡ n)) (λ n. IsSo n ⊎ (Some node ≡ Some n))
    (λ n is. ⊎_elim inl (λ same. inr (ap Some same)) is) (λ n is. ⊎_elim inl (λ same. inr (let e = same in cc)) is)
    new (with_new IsSo node nodes are new one)

-- ---- a map and one range more

module _ (map : List SlotRange) (range : SlotRange) where
  -- of what the ranges of a map have, and one more, that is new or old
  old_range : (r : SlotRange) → Contains map r → Contains (map ++ range ∷ []) r
  old_range r has = Contains-append_left map (range ∷ []) r has

  new_range : Contains (map ++ range ∷ []) range
  new_range = Contains-append_right map (range ∷ []) range (the_one range)

  either_primary : (node : NodeAddr) → IsPrimaryIn (map ++ range ∷ []) node → IsPrimaryIn map node ⊎ (range.primary ≡ Some node)
  either_primary node h = ⊎_elim (λ before. inl (h.0, (before, h.1.1)))
      (λ last. inr (ap (λ r. r.primary) (only range h.0 last) ∙ h.1.1))
      (Contains-append_cases map (range ∷ []) h.0 h.1.0)

  one_primary : (node : NodeAddr) → IsPrimaryIn map node ⊎ (range.primary ≡ Some node) → IsPrimaryIn (map ++ range ∷ []) node
  one_primary node (inl h) = (h.0, (old_range h.0 h.1.0, h.1.1))
  one_primary node (inr is) = (range, (new_range, is))

  either_replica : (node : NodeAddr) → IsReplicaIn (map ++ range ∷ []) node → IsReplicaIn map node ⊎ Contains range.replicas node
  either_replica node h = ⊎_elim (λ before. inl (h.0, (before, h.1.1)))
      (λ last. inr (subst (λ r. Contains r.replicas node) (sym (only range h.0 last)) h.1.1))
      (Contains-append_cases map (range ∷ []) h.0 h.1.0)

  one_replica : (node : NodeAddr) → IsReplicaIn map node ⊎ Contains range.replicas node → IsReplicaIn (map ++ range ∷ []) node
  one_replica node (inl h) = (h.0, (old_range h.0 h.1.0, h.1.1))
  one_replica node (inr has) = (range, (new_range, has))

  primaries_with : (nodes new : List NodeAddr) → ArePrimaries map nodes → IsWithPrimary range.primary nodes new
      → ArePrimaries (map ++ range ∷ []) new
  primaries_with nodes new are more = also _ (IsPrimaryIn (map ++ range ∷ [])) one_primary either_primary new
      (with_optional (IsPrimaryIn map) range.primary nodes new are more)

  abbrev IsNode : NodeAddr → Type 0
  IsNode node = IsPrimaryIn map node ⊎ IsReplicaIn map node

  -- a node of the map, or of the range
  abbrev IsOfEither : NodeAddr → Type 0
  IsOfEither node = (IsNode node ⊎ (range.primary ≡ Some node)) ⊎ Contains range.replicas node

  of_longer : (node : NodeAddr) → IsOfEither node → IsPrimaryIn (map ++ range ∷ []) node ⊎ IsReplicaIn (map ++ range ∷ []) node
  of_longer node (inl (inl (inl primary))) = inl (one_primary node (inl primary))
  of_longer node (inl (inl (inr replica))) = inr (one_replica node (inl replica))
  of_longer node (inl (inr is)) = inl (one_primary node (inr is))
  of_longer node (inr has) = inr (one_replica node (inr has))

  of_either : (node : NodeAddr) → IsPrimaryIn (map ++ range ∷ []) node ⊎ IsReplicaIn (map ++ range ∷ []) node → IsOfEither node
  of_either node (inl primary) = ⊎_elim (λ before. inl (inl (inl before))) (λ is. inl (inr is)) (either_primary node primary)
  of_either node (inr replica) = ⊎_elim (λ before. inl (inl (inr before))) (λ has. inr has) (either_replica node replica)

  nodes_with : (nodes new : List NodeAddr) → AreNodes map nodes → AreWithRange range nodes new → AreNodes (map ++ range ∷ []) new
  nodes_with nodes new are more = also IsOfEither _ of_longer of_either new
      (with_all_new (λ n. IsNode n ⊎ (range.primary ≡ Some n)) range.replicas more.between new
      (with_optional IsNode range.primary nodes more.between are more.primary) more.replicas)

-- ---- the first ranges, and one more

pub no_primaries : ArePrimaries [] []
no_primaries = nobody (IsPrimaryIn []) (λ node h. none_in h.0 h.1.0)

pub no_nodes : AreNodes [] []
no_nodes = nobody (λ node. IsPrimaryIn [] node ⊎ IsReplicaIn [] node)
    (λ node is. ⊎_elim (λ h. none_in h.0 h.1.0) (λ h. none_in h.0 h.1.0) is)

module _ (map : List SlotRange) (i : ℕ) (range : SlotRange) (nodes new : List NodeAddr) (lt : i < length map)
    (is : range ≡ get_or map i range) where
  longer : take i map ++ range ∷ [] ≡ take (i + 1) map
  longer = ap (λ r. take i map ++ r ∷ []) is ∙ sym (take_more map i range lt)

  pub one_more : ArePrimaries (take i map) nodes → IsWithPrimary range.primary nodes new → ArePrimaries (take (i + 1) map) new
  one_more are more = subst (λ m. ArePrimaries m new) longer (primaries_with (take i map) range nodes new are more)

  pub one_more_of_all : AreNodes (take i map) nodes → AreWithRange range nodes new → AreNodes (take (i + 1) map) new
  one_more_of_all are more = subst (λ m. AreNodes m new) longer (nodes_with (take i map) range nodes new are more)

pub one_new_more : (more old now new : List NodeAddr) (i : ℕ) (node : NodeAddr) → i < length more → node ≡ get_or more i node
    → AreWithNew (take i more) old now → IsWithNew node now new → AreWithNew (take (i + 1) more) old new
one_new_more more old now new i node lt is so_far step = subst (λ front. AreWithNew front old new)
    (ap (λ n. take i more ++ n ∷ []) is ∙ sym (take_more more i node lt))
    (FoldsTo-push (λ before n after. IsWithNew n before after) old (take i more) now node new so_far step)

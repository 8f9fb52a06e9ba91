-- Nodes that are asked for the map, one after another.
use Rattle.std.proofs.Common.{◌≡◌, ℕ, ◌+◌, ◌<◌, ◌≤◌, List, [], ◌∷◌, ◌++◌, length, take, drop, get_or, refl, sym, ap, subst, ◌∙◌, Ok, Err}
use Rattle.std.proofs.Common.{Option, Some, None, inl, inr, ⊎_elim, arith, slice_get}
use Rattle.std.proofs.lemmas.Option.{slice_get_cases}
use Rattle.std.specs.List.{Contains}
use Rattle.std.proofs.lemmas.List.Elements.{Contains-append_left}
use Rattle.std.specs.List.{FoldsTo}
use Rattle.std.proofs.lemmas.Fn.{FoldsTo-push}
use Rattle.std.proofs.lemmas.List.{drop_more, take_more, take_all, take-append-drop}
use Rattle.resp_command.specs.Connection.{Connection}
use Rattle.resp_cluster.proofs.MorePrimaries.{no_primaries, one_more}
use Rattle.resp_cluster.specs.Cluster.{AsksMap, AsksInVain, AsksInTurn, found, nobody, in_vain}
use Rattle.resp_cluster.specs.Cluster.{AsksPrimaries, until_one, all_in_vain}
use Rattle.resp_cluster.specs.Primaries.{ArePrimaries, IsNewPrimary, IsPrimaryIn, IsWithPrimary}
use Rattle.resp_cluster.specs.Links.{Links}
use Rattle.resp_cluster.specs.declared.map_source.MapError.{MapError}
use Rattle.resp_cluster.specs.declared.map_source.MapError.TheVariants.{NoNode}
use Rattle.resp_cluster.specs.declared.node.NodeAddr.{NodeAddr}
use Rattle.resp_cluster.specs.declared.node.SlotRange.{SlotRange}

module _ {L : Type 0} (of_link : L → Connection) where
  each_in_vain : (nodes : List NodeAddr) (old now : Links L) (e : MapError) → AsksInTurn of_link nodes old now (Err e)
      → FoldsTo (AsksInVain of_link) old nodes now
  each_in_vain nodes old now e (found front node back before map is so_far asks r) = absurd (cc)
  each_in_vain nodes old now e (nobody none same r) =
      subst (λ asked. FoldsTo (AsksInVain of_link) old asked now) (sym none) (sym same)
  each_in_vain nodes old now e (in_vain front last before f is so_far asks r) =
      subst (λ asked. FoldsTo (AsksInVain of_link) old asked now) (sym is)
      (FoldsTo-push (AsksInVain of_link) old front before last now so_far (record { error = f; asks = asks }))

  module _ (nodes : List NodeAddr) (old : Links L) (i : ℕ) (now : Links L) (e : MapError)
      (so_far : AsksInTurn of_link (take i nodes) old now (Err e)) where
    pub found_at : (node : NodeAddr) → i < length nodes → node ≡ get_or nodes i node → (new : Links L) (map : List SlotRange)
        → AsksMap of_link node now new (Ok map) → AsksInTurn of_link nodes old new (Ok map)
    found_at node lt is new map asks = found (take i nodes) node (drop (i + 1) nodes) now map
        (sym (take-append-drop i nodes) ∙ ap (λ rest. take i nodes ++ rest) (drop_more nodes i node lt)
        ∙ ap (λ n. take i nodes ++ n ∷ drop (i + 1) nodes) (sym is)) (each_in_vain _ _ _ _ so_far) asks refl

    pub one_more_asked : (node : NodeAddr) → i < length nodes → node ≡ get_or nodes i node → (new : Links L) (f : MapError)
        → AsksMap of_link node now new (Err f) → AsksInTurn of_link (take (i + 1) nodes) old new (Err f)
    one_more_asked node lt is new f asks = in_vain (take i nodes) node now f
        (take_more nodes i node lt ∙ ap (λ n. take i nodes ++ n ∷ []) (sym is)) (each_in_vain _ _ _ _ so_far) asks refl

    pub all_asked : length nodes ≤ i → AsksInTurn of_link nodes old now (Err e)
    all_asked all = subst (λ asked. AsksInTurn of_link asked old now (Err e)) (take_all i nodes all) so_far

-- ---- the primaries of a map

-- a primary of the first ranges is one of all
of_all : (i : ℕ) (map : List SlotRange) (node : NodeAddr) → IsPrimaryIn (take i map) node → IsPrimaryIn map node
of_all i map node h = (
  h.0,
  (
    subst (λ ranges. Contains ranges h.0) (take-append-drop i map)
        (Contains-append_left (take i map) (drop i map) h.0 h.1.0),
    h.1.1,
  ),
)

-- the range at a place
at_place : (map : List SlotRange) (i : ℕ) → i < length map
    → (range : SlotRange) × ((slice_get map i ≡ Some range) × (range ≡ get_or map i range))
at_place map i lt = ⊎_elim (λ here. (here.0, (here.2, sym here.3))) (λ past. absurd (let no = past.0 in omega (arith, lt, no)))
    (slice_get_cases map i).1

no_new : (primary : Option NodeAddr) (nodes : List NodeAddr) → ((node : NodeAddr) → primary ≡ Some node → Contains nodes node)
    → IsWithPrimary primary nodes nodes
no_new None nodes known = refl
no_new (Some node) nodes known = inl (known node refl, refl)

module _ {L : Type 0} (of_link : L → Connection) (known : List SlotRange) (old : Links L) where
  -- the primaries of the first ranges were asked in vain
  pub record InVain (i : ℕ) (now : Links L) (e : MapError) : Type 0 where
    pub nodes : List NodeAddr
    pub are : ArePrimaries (take i known) nodes
    pub asks : AsksInTurn of_link nodes old now (Err e)

  pub none_asked : InVain 0 old NoNode
  none_asked = record { nodes = []; are = no_primaries; asks = nobody refl refl refl }

  module _ (i : ℕ) (now : Links L) (e : MapError) (so_far : InVain i now e) where
    module _ (lt : i < length known) (found_new : Option NodeAddr)
        (is : (range : SlotRange) → slice_get known i ≡ Some range → IsNewPrimary (take i known) range found_new) where
      abbrev range : SlotRange
      range = (at_place known i lt).0

      new_one : (f : Option NodeAddr) → found_new ≡ f → IsNewPrimary (take i known) range f
      new_one f same = subst (IsNewPrimary (take i known) range) same (is range (at_place known i lt).1.0)

      with_it : (nodes : List NodeAddr) → IsWithPrimary range.primary so_far.nodes nodes → ArePrimaries (take (i + 1) known) nodes
      with_it nodes more = one_more known i range so_far.nodes nodes lt (at_place known i lt).1.1 so_far.are more

      pub passed_over : found_new ≡ None → InVain (i + 1) now e
      passed_over none = record {
        nodes = so_far.nodes;
        are = with_it so_far.nodes (no_new range.primary so_far.nodes
            (λ node primary. so_far.are.complete node (new_one None none node primary)));
        asks = so_far.asks;
      }

      module _ (node : NodeAddr) (one : found_new ≡ Some node) (new : Links L) where
        abbrev with_node : List NodeAddr
        with_node = so_far.nodes ++ node ∷ []

        are_with : ArePrimaries (take (i + 1) known) with_node
        are_with = let this = new_one (Some node) one in with_it with_node
            (subst (λ primary. IsWithPrimary primary so_far.nodes with_node) (sym this.0)
            (inr (λ has. this.1 (so_far.are.some.listed node has), refl)))

        pub asked_too : (f : MapError) → AsksMap of_link node now new (Err f) → InVain (i + 1) new f
        asked_too f asks = record {
          nodes = with_node;
          are = are_with;
          asks = in_vain so_far.nodes node now f refl (each_in_vain of_link _ _ _ _ so_far.asks) asks refl;
        }

        pub one_gives : (map : List SlotRange) → AsksMap of_link node now new (Ok map)
            → AsksPrimaries of_link known old new (Ok map)
        one_gives map asks = until_one with_node map
            (record {
              listed = λ n has. of_all (i + 1) known n (are_with.some.listed n has);
              distinct = are_with.some.distinct;
            })
            (found so_far.nodes node [] now map refl (each_in_vain of_link _ _ _ _ so_far.asks) asks refl) refl

    pub none_gives : length known ≤ i → AsksPrimaries of_link known old now (Err e)
    none_gives all = all_in_vain so_far.nodes e (subst (λ ranges. ArePrimaries ranges so_far.nodes) (take_all i known all)
        so_far.are) so_far.asks refl

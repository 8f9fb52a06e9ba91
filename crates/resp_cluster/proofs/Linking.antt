-- Links by their places.
use Rattle.std.proofs.Common.{◌≡◌, ◌≢◌, ℕ, ◌+◌, ◌<◌, ◌≤◌, Bool, true, false, List, [], ◌∷◌, ◌++◌, length, get_or, take, set, suc, zero, Some}
use Rattle.std.proofs.Common.{refl, sym, ap, subst, ◌∙◌, arith, Ok, Err, not}
use Rattle.std.specs.List.{All}
use Rattle.std.proofs.lemmas.List.{take_more, take_all}
use Rattle.std.proofs.lemmas.List.Elements.{All-append}
use Rattle.std.proofs.lemmas.Option.{slice_get_within, get_or_from_slice_get, slice_get_read}
use Rattle.resp_errors.specs.declared.redis_error.RedisError.{RedisError}
use Rattle.resp_command.specs.Connection.{Connection}
use Rattle.resp_cluster.specs.Links.{Links, IsAt, HasNoLink, IsPlaceOf, Reaches, link_to, with_link, with_one_more, kept, reopened, opened, unopened, unreopened}
use Rattle.resp_cluster.specs.declared.links.NodeLink.{NodeLink}
use Rattle.resp_cluster.specs.declared.node.NodeAddr.{NodeAddr}

module _ {L : Type 0} (links : Links L) (node : NodeAddr) where
  abbrev Lacks : NodeLink L → Type 0
  Lacks link = link.node ≢ node

  pub found : (i : ℕ) (item : NodeLink L) → i < length links.links → item ≡ get_or links.links i item
      → item.node ≡ node → IsPlaceOf node links (Some i)
  found i item lt is same = (
    item.link,
    slice_get_read links.links (length links.links) i item refl lt is
        ∙ ap (λ n. Some (link_to n item.link)) same,
  )

  one : (item : NodeLink L) → Lacks item → All Lacks (item ∷ [])
  one item lacks zero d lt = lacks
  one item lacks (suc k) d lt = absurd (omega (arith, lt))

  pub one_further : (i : ℕ) (item : NodeLink L) → All Lacks (take i links.links) → i < length links.links
      → item ≡ get_or links.links i item → Lacks item → All Lacks (take (i + 1) links.links)
  one_further i item none lt is lacks = subst (All Lacks)
      (sym (take_more links.links i item lt ∙ ap (λ x. take i links.links ++ x ∷ []) (sym is)))
      (All-append Lacks (take i links.links) (item ∷ []) none (one item lacks))

  pub none_there : (i : ℕ) → All Lacks (take i links.links) → length links.links ≤ i → HasNoLink node links
  none_there i none all = subst (All Lacks) (take_all i links.links all) none

  pub within : (place : ℕ) (link : L) → IsAt links place node link → place < length links.links
  within place link at = slice_get_within links.links place (link_to node link) at

  pub item_is : (place : ℕ) (link : L) → IsAt links place node link → (item : NodeLink L)
      → item ≡ get_or links.links place item → item ≡ link_to node link
  item_is place link at item is = is ∙ get_or_from_slice_get links.links place (link_to node link) item at

is_true : (b : Bool) → not b ≡ true → b ≡ false
is_true false h = refl
is_true true h = cc

is_broken : (b : Bool) → not b ≡ false → b ≡ true
is_broken true h = refl
is_broken false h = cc

module _ {L : Type 0} (of_link : L → Connection) (node : NodeAddr) (old : Links L) (items : List (NodeLink L)) (last : ℕ)
    (view : record { links = items; last = last } ≡ old) where
  abbrev used_at : ℕ → Links L → Links L
  used_at place links = record { links = links.links; last = place }

  abbrev of_items : List (NodeLink L) → ℕ → Links L
  of_items list place = record { links = list; last = place }

  module _ (place : ℕ) (link : L) (at : IsAt old place node link) where
    pub in_range : place < length items
    in_range = subst (λ l. place < length l.links) (sym view) (within old node place link at)

    is_this : (item : NodeLink L) → item ≡ get_or items place item → item ≡ link_to node link
    is_this item is = item_is old node place link at item (is ∙ ap (λ l. get_or l.links place item) view)

    pub kept_then : (item : NodeLink L) → item ≡ get_or items place item → (usable : Bool)
        → usable ≡ not (of_link item.link).broken → usable ≡ true
        → Reaches of_link node old (record { links = items; last = place }) (Ok tt)
    kept_then item is usable usable_is true_is = kept place link at
        (is_true (of_link link).broken (ap (λ i. not (of_link i.link).broken) (sym (is_this item is)) ∙ sym usable_is ∙ true_is))
        (ap (used_at place) view) refl

    pub unreopened_then : (item : NodeLink L) → item ≡ get_or items place item → (usable : Bool)
        → usable ≡ not (of_link item.link).broken → usable ≡ false → (e : RedisError)
        → Reaches of_link node old (record { links = items; last = last }) (Err e)
    unreopened_then item is usable usable_is false_is e = unreopened e place link at
        (is_broken (of_link link).broken (ap (λ i. not (of_link i.link).broken) (sym (is_this item is)) ∙ sym usable_is ∙ false_is))
        view refl

    pub reopened_then : (item : NodeLink L) → item ≡ get_or items place item → (usable : Bool)
        → usable ≡ not (of_link item.link).broken → usable ≡ false → (new : L) → (of_link new).broken ≡ false
        → (other : NodeLink L) → other ≡ get_or items place other
        → Reaches of_link node old (record { links = set items place (record { node = other.node; link = new }); last = place }) (Ok tt)
    reopened_then item is usable usable_is false_is new works other other_is = reopened place link new at
        (is_broken (of_link link).broken (ap (λ i. not (of_link i.link).broken) (sym (is_this item is)) ∙ sym usable_is ∙ false_is))
        works
        (ap (λ n. of_items (set items place (link_to n new)) place) (ap (λ i. i.node) (is_this other other_is))
        ∙ ap (λ l. with_link place (link_to node new) l) view) refl

  module _ (none : HasNoLink node old) where
    pub unopened_then : (new : List (NodeLink L)) → new ≡ items → (e : RedisError)
        → Reaches of_link node old (record { links = new; last = last }) (Err e)
    unopened_then new is e = unopened e none (ap (λ list. of_items list last) is ∙ view) refl

    pub opened_then : (link : L) → (of_link link).broken ≡ false → (named : NodeAddr) → named ≡ node
        → (new : List (NodeLink L)) → new ≡ items ++ (record { node = named; link = link }) ∷ [] → (place : ℕ) → place ≡ length items
        → Reaches of_link node old (record { links = new; last = place }) (Ok tt)
    opened_then link works named named_is new new_is place place_is = opened link none works
        (ap (λ l. of_items l place) new_is
        ∙ ap (λ n. of_items (items ++ link_to n link ∷ []) place) named_is
        ∙ ap (λ n. of_items (items ++ link_to node link ∷ []) n) place_is
        ∙ ap (λ l. with_one_more (link_to node link) l) view) refl

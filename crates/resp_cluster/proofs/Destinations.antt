-- Where a command goes, and where the first primary is.
use Rattle.std.proofs.Common.{◌≡◌, ◌≢◌, ℕ, ◌+◌, ◌<◌, List, ◌∷◌, length, drop, get_or, Option, None, Some}
use Rattle.std.proofs.Common.{refl, sym, ap, subst, ◌∙◌, Bool, true, false, Result, Ok, Err, IfErr, IfOk}
use Rattle.std.proofs.lemmas.List.{drop_more}
use Rattle.resp_args.specs.Args.{Args}
use Rattle.resp_errors.specs.declared.redis_error.RedisError.{RedisError}
use Rattle.resp_errors.specs.declared.redis_error.RedisError.TheVariants as form
use Rattle.resp_command.specs.Command.{Command}
use Rattle.resp_routing.specs.Refusals.{redis_error_of}
use Rattle.resp_routing.specs.Routes.{HasNoRoute, IsRoute}
use Rattle.resp_routing.specs.declared.errors.RoutingError.{RoutingError}
use Rattle.resp_routing.specs.declared.errors.RoutingError.TheVariants as refused
use Rattle.resp_cluster.specs.Cluster.{CannotGo, is_to_one, several, unrouted, several_nodes, routed_args, first_primary, first_node, has_failed, only_reads}
use Rattle.resp_cluster.specs.Cluster.{error_of, node_at}
use Rattle.resp_cluster.specs.Maps.{primary_at}
use Rattle.resp_cluster.specs.declared.one_node.Refusal.{Refusal}
use Rattle.resp_cluster.specs.declared.read_from.ReadFrom.TheVariants.{Primary}
use Rattle.resp_cluster.specs.Cluster.{Cluster, EndsWith, Round, followed, cut_short, AsksPrimaries, Refreshes, learnt, kept}
use Rattle.resp_cluster.specs.Links.{Links, SendsTo, SentRedirects}
use Rattle.resp_cluster.specs.Routed.{Followed, Interrupted, NotFollowed}
use Rattle.resp_cluster.specs.declared.router.RouteError.{RouteError}
use Rattle.resp_cluster.specs.declared.router.RouteError.TheVariants.{NoNode, OutOfMemory, Unfollowed}
use Rattle.resp_cluster.specs.declared.links.Sent.{Sent}
use Rattle.resp_cluster.specs.declared.map_source.MapError.{MapError}
use Rattle.resp_command.specs.Connection.{Connection}
use Rattle.resp_routing.specs.declared.routes.Route.{Route}
use Rattle.resp_cluster.specs.declared.node.NodeAddr.{NodeAddr}
use Rattle.resp_cluster.specs.declared.read_from.ReadFrom.{ReadFrom}
use Rattle.resp_cluster.specs.declared.node.SlotRange.{SlotRange}

module _ (c : Command) (args : Args) (shown : args ≡ routed_args c) (e : RedisError) where
  pub several_then : (route : Route) → IsRoute args route → is_to_one route ≡ false → e ≡ several_nodes → CannotGo c e
  several_then route goes several_is is = several route (subst (λ a. IsRoute a route) shown goes) several_is is

  pub unrouted_then : (why : RoutingError) → (why ≢ refused.OutOfMemory → HasNoRoute args why)
      → e ≡ redis_error_of why → e ≢ form.OutOfMemory → CannotGo c e
  unrouted_then why none is differ = unrouted why
      (subst (λ a. HasNoRoute a why) shown (none (λ same. differ (is ∙ ap redis_error_of same)))) is

module _ (map : List SlotRange) where
  pub next_lacks : (i : ℕ) (range : SlotRange) → i < length map → range ≡ get_or map i range → range.primary ≡ None
      → first_primary map ≡ first_primary (drop i map) → first_primary map ≡ first_primary (drop (i + 1) map)
  next_lacks i range lt is lacks so_far = so_far ∙ ap first_primary (drop_more map i range lt)
      ∙ ap (λ r. first_primary (r ∷ drop (i + 1) map)) (sym is)
      ∙ ap (λ p. elim p as (λ _. Option NodeAddr) [ None ↦ first_primary (drop (i + 1) map) | Some node ↦ Some node ]) lacks

  pub first_is : (i : ℕ) (range : SlotRange) (node : NodeAddr) → i < length map → range ≡ get_or map i range
      → range.primary ≡ Some node → first_primary map ≡ first_primary (drop i map) → first_primary map ≡ Some node
  first_is i range node lt is has so_far = so_far ∙ ap first_primary (drop_more map i range lt)
      ∙ ap (λ r. first_primary (r ∷ drop (i + 1) map)) (sym is)
      ∙ ap (λ p. elim p as (λ _. Option NodeAddr) [ None ↦ first_primary (drop (i + 1) map) | Some n ↦ Some n ]) has

-- where reads go to primaries, all commands do
pub primary_to_all : (only_reads : Bool) (map : List SlotRange) (slot : ℕ)
    → node_at only_reads Primary map slot ≡ primary_at map slot
primary_to_all false map slot = refl
primary_to_all true map slot = refl

-- a round that was made from these parts of a cluster
module _ {L : Type 0} (of_link : L → Connection) (c : Command) (route : Route) (links : Links L) (map : List SlotRange)
    (budget : ℕ) (reads : ReadFrom) (stale : Bool) (old : Cluster L) (view : record { links = links; map = map; budget = budget; reads = reads; stale = stale } ≡ old)
    (node : NodeAddr) (first : first_node (only_reads c) route old ≡ Some node) (new_links : Links L) (new_map : List SlotRange) (sent : Sent) where
  abbrev after : Bool → Cluster L
  after failed = record { links = new_links; map = new_map; budget = budget; reads = reads; stale = failed }

  pub round_followed : Followed (SendsTo of_link c) SentRedirects (node, false) budget links map new_links new_map sent
      → Round of_link c route old (after (has_failed sent)) (Ok sent)
  round_followed f = subst (λ o. first_node (only_reads c) route o ≡ Some node → Round of_link c route o (after (has_failed sent)) (Ok sent))
      view (λ is. followed node new_links new_map sent is f refl refl) first

  pub round_cut_short : Interrupted (SendsTo of_link c) SentRedirects (node, false) budget links map new_links new_map sent
      → Round of_link c route old (after true) (Ok sent)
  round_cut_short f = subst (λ o. first_node (only_reads c) route o ≡ Some node → Round of_link c route o (after true) (Ok sent))
      view (λ is. cut_short node new_links new_map sent is f refl refl) first

  pub round_ends : (outcome : Result Sent (RouteError Sent)) (failed : Bool) → EndsWith outcome sent failed
      → IfOk outcome (Followed (SendsTo of_link c) SentRedirects (node, false) budget links map new_links new_map)
      → IfErr outcome (NotFollowed (SendsTo of_link c) SentRedirects (node, false) budget links map new_links new_map)
      → Round of_link c route old (after failed) (Ok sent)
  round_ends (Ok last) failed ends f i = rw (ends.1, ← ends.0) (round_followed (rw (← ends.0) at f))
  round_ends (Err NoNode) failed ends f i = absurd i
  round_ends (Err OutOfMemory) failed ends f i = absurd i
  round_ends (Err (Unfollowed last)) failed ends f i = rw (ends.1) (round_cut_short (rw (← ends.0) at i))

-- a caller is answered why a command goes nowhere, as far as there is memory
pub refused_then : (c : Command) (why : Refusal) (e : RedisError)
    → (error_of why ≢ form.OutOfMemory → CannotGo c (error_of why)) → (e ≢ form.OutOfMemory → e ≡ error_of why)
    → e ≢ form.OutOfMemory → CannotGo c e
refused_then c why e cannot given differ =
    let is = given differ in subst (CannotGo c) (sym is) (cannot (λ same. differ (is ∙ same)))

-- the map was asked for from these parts of a cluster
module _ {L : Type 0} (of_link : L → Connection) (links : Links L) (map : List SlotRange)
    (budget : ℕ) (reads : ReadFrom) (stale : Bool) (old : Cluster L) (view : record { links = links; map = map; budget = budget; reads = reads; stale = stale } ≡ old)
    (new_links : Links L) where
  abbrev with_map : List SlotRange → Cluster L
  with_map new_map = record { links = new_links; map = new_map; budget = budget; reads = reads; stale = false }

  pub learnt_then : (new_map : List SlotRange) → AsksPrimaries of_link map links new_links (Ok new_map)
      → Refreshes of_link old (with_map new_map)
  learnt_then new_map asks = subst (λ o. Refreshes of_link o (with_map new_map)) view (learnt new_links new_map asks refl)

  pub kept_then : (e : MapError) → AsksPrimaries of_link map links new_links (Err e) → Refreshes of_link old (with_map map)
  kept_then e asks = subst (λ o. Refreshes of_link o (with_map map)) view (kept new_links e asks refl)

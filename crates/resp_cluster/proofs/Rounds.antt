-- A command that is sent to a node and on to where redirects point.
use Rattle.std.proofs.Common.{◌≡◌, ◌⊎◌, ℕ, suc, ◌-◌, ◌<◌, Bool, true, false, List, [], ◌∷◌, length, Option, None, Some}
use Rattle.std.proofs.Common.{Result, Ok, Err, IfOk, IfErr, is_err, refl, sym, ap, subst, ◌∙◌, inl, inr, arith}
use Rattle.std.specs.List.{slice_get}
use Rattle.resp_value.specs.declared.value.Value.{Value}
use Rattle.resp_errors.specs.declared.redis_error.RedisError.{RedisError}
use Rattle.resp_command.specs.Command.{Command}
use Rattle.resp_command.specs.Connection.{Connection}
use Rattle.resp_routing.specs.declared.routes.Route.{Route}
use Rattle.resp_cluster.specs.Cluster.{Cluster, EndsWith, IsFirstPlace, Round, RoundOn, Rounds, RoundsOn, first_node, has_failed, only_reads}
use Rattle.resp_cluster.specs.Cluster.{again, cut_short, followed, once, stopped, went}
use Rattle.resp_cluster.specs.Links.{IsLastNode, IsOpenAt, Links, SendsOver, SendsTo, SentRedirects, UsesLast, answered, kept, last_used, link_to}
use Rattle.resp_cluster.specs.Routed.{DidNotGoOn, Followed, Interrupted, IsUnfollowed, Learns, NotFollowed, StoppedShort, WentOn}
use Rattle.resp_cluster.specs.Routed.{at_once, nowhere, on_the_way, onwards}
use Rattle.resp_cluster.specs.declared.links.NodeLink.{NodeLink}
use Rattle.resp_cluster.specs.declared.links.Sent.{Sent}
use Rattle.resp_cluster.specs.declared.links.Sent.TheVariants.{Answered}
use Rattle.resp_cluster.specs.declared.node.NodeAddr.{NodeAddr}
use Rattle.resp_cluster.specs.declared.node.SlotRange.{SlotRange}
use Rattle.resp_cluster.specs.declared.read_from.ReadFrom.{ReadFrom}
use Rattle.resp_cluster.specs.declared.redirect.Redirect.{Redirect}
use Rattle.resp_cluster.specs.declared.redirect.Redirect.TheVariants.{Stays}
use Rattle.resp_cluster.specs.declared.router.RouteError.{RouteError}
use Rattle.resp_cluster.specs.declared.router.RouteError.TheVariants.{NoNode, OutOfMemory, Unfollowed}
use Rattle.resp_cluster.proofs.OverLinks.{set_there}

-- ---- after the first send

module _ {S T : Type 0} (sends : S → S → NodeAddr → Bool → T → Type 0) (redirects : NodeAddr → T → Redirect → Type 0)
    (node : NodeAddr) (reply : T) (budget : ℕ) (old middle : S) (map : List SlotRange)
    (sent : sends old middle node false reply) where
  none_left : (next : Option (NodeAddr × Bool)) → (next ≡ None) ⊎ (budget ≡ 0) → (next ≡ None) ⊎ (0 ≡ budget)
  none_left next (inl none) = inl none
  none_left next (inr zero) = inr (sym zero)

  one_more : (next : Option (NodeAddr × Bool)) (count : ℕ) → 0 < budget → (next ≡ None) ⊎ (count ≡ budget - 1)
      → (next ≡ None) ⊎ (suc count ≡ budget)
  one_more next count some (inl none) = inl none
  one_more next count some (inr all) = inr (omega arith)

  -- it is the last
  pub sent_once : (new_map : List SlotRange) (next : Option (NodeAddr × Bool)) → Learns (redirects node reply) map new_map next
      → (next ≡ None) ⊎ (budget ≡ 0) → Followed sends redirects (node, false) budget old map middle new_map reply
  sent_once new_map next learns stops = record {
    earlier = [];
    last = record { nodes = old; map = map; to = (node, false) };
    next = next;
    leads = record { followed = refl; within = omega arith };
    sent = sent;
    learns = learns;
    stops = none_left next stops;
  }

  pub went_then : (new : S) (new_map : List SlotRange) (answer : T)
      → WentOn sends redirects node reply budget middle map new new_map answer
      → Followed sends redirects (node, false) budget old map new new_map answer
  went_then new new_map answer (nowhere next learns stops new_is answer_is) =
      rw (new_is, answer_is) (sent_once new_map next learns stops)
  went_then new new_map answer (onwards to learnt learns some f) = record {
    earlier = reply ∷ f.earlier;
    last = f.last;
    next = f.next;
    leads = record {
      followed = (record { nodes = middle; map = learnt; to = to }, record { sent = sent; learns = learns }, f.leads.followed);
      within = let within = f.leads.within in omega arith;
    };
    sent = f.sent;
    learns = f.learns;
    stops = one_more f.next (length f.earlier) some f.stops;
  }

  pub stopped_then : (new : S) (new_map : List SlotRange) (answer : T)
      → StoppedShort sends redirects node reply budget middle map new new_map answer
      → Interrupted sends redirects (node, false) budget old map new new_map answer
  stopped_then new new_map answer (at_once new_is map_is answer_is) = rw (new_is, answer_is) (record {
    earlier = [];
    last = record { nodes = old; map = map; to = (node, false) };
    leads = record { followed = refl; within = omega arith };
    sent = sent;
    unlearnt = map_is;
  })
  stopped_then new new_map answer (on_the_way to learnt learns some i) = record {
    earlier = reply ∷ i.earlier;
    last = i.last;
    leads = record {
      followed = (record { nodes = middle; map = learnt; to = to }, record { sent = sent; learns = learns }, i.leads.followed);
      within = let within = i.leads.within in omega arith;
    };
    sent = i.sent;
    unlearnt = i.unlearnt;
  }

-- what is not followed is the last reply, for lack of memory
module _ {S T : Type 0} (sends : S → S → NodeAddr → Bool → T → Type 0) (redirects : NodeAddr → T → Redirect → Type 0)
    (budget : ℕ) (old : S) (map : List SlotRange) (new : S) (new_map : List SlotRange) where
  pub unfollowed : (first : NodeAddr × Bool) (outcome : Result T (RouteError T))
      → IfErr outcome (NotFollowed sends redirects first budget old map new new_map) → IfErr outcome IsUnfollowed
  unfollowed first (Ok answer) h = tt
  unfollowed first (Err NoNode) h = absurd h
  unfollowed first (Err OutOfMemory) h = absurd h
  unfollowed first (Err (Unfollowed answer)) h = (answer, refl)

  pub not_onwards : (node : NodeAddr) (reply : T) (outcome : Result T (RouteError T))
      → IfErr outcome (DidNotGoOn sends redirects node reply budget old map new new_map) → IfErr outcome IsUnfollowed
  not_onwards node reply (Ok answer) h = tt
  not_onwards node reply (Err NoNode) h = absurd h
  not_onwards node reply (Err OutOfMemory) h = absurd h
  not_onwards node reply (Err (Unfollowed answer)) h = (answer, refl)

-- ---- of a cluster

same_node : {L : Type 0} (used : Option (NodeLink L)) (one other : NodeAddr) (x y : L) → used ≡ Some (link_to one x)
    → used ≡ Some (link_to other y) → one ≡ other
same_node used one other x y is is' =
    let same : Some (link_to one x) ≡ Some (link_to other y) = sym is ∙ is' in
    let links : link_to one x ≡ link_to other y = cc in
    ap (λ link. link.node) links

-- a command that went on from what came of sending it to a node
module _ {L : Type 0} (of_link : L → Connection) (c : Command) (links : Links L) (map : List SlotRange) (budget : ℕ)
    (reads : ReadFrom) (stale : Bool) (old : Cluster L)
    (view : record { links = links; map = map; budget = budget; reads = reads; stale = stale } ≡ old) (node : NodeAddr)
    (reply : Sent) where
  abbrev on_after : Links L → List SlotRange → Bool → Cluster L
  on_after new_links new_map failed =
      record { links = new_links; map = new_map; budget = budget; reads = reads; stale = failed }

  pub round_unlearnt : (new_links : Links L) → new_links ≡ links → RoundOn of_link c node reply old (on_after new_links map true) reply
  round_unlearnt new_links is = subst (λ o. RoundOn of_link c node reply o (on_after new_links map true) reply) view
      (stopped new_links map (at_once is refl refl) refl)

  goes_on : (new_links : Links L) (new_map : List SlotRange) (outcome : Result Sent (RouteError Sent))
      (sent : Sent) (failed : Bool) → EndsWith outcome sent failed
      → IfOk outcome (WentOn (SendsTo of_link c) SentRedirects node reply budget links map new_links new_map)
      → IfErr outcome (DidNotGoOn (SendsTo of_link c) SentRedirects node reply budget links map new_links new_map)
      → RoundOn of_link c node reply old (on_after new_links new_map failed) sent
  goes_on new_links new_map (Ok last) sent failed ends w d = rw (ends.0, ends.1)
      (subst (λ o. RoundOn of_link c node reply o (on_after new_links new_map (has_failed last)) last) view (went new_links new_map w refl))
  goes_on new_links new_map (Err NoNode) sent failed ends w d = absurd d
  goes_on new_links new_map (Err OutOfMemory) sent failed ends w d = absurd d
  goes_on new_links new_map (Err (Unfollowed last)) sent failed ends w d = rw (ends.0, ends.1)
      (subst (λ o. RoundOn of_link c node reply o (on_after new_links new_map true) last) view (stopped new_links new_map d refl))

  pub round_goes_on : (last : NodeAddr) → IsLastNode last links → IsLastNode node links → (new_links : Links L) (new_map : List SlotRange) (outcome : Result Sent (RouteError Sent))
      (sent : Sent) (failed : Bool) → EndsWith outcome sent failed
      → IfOk outcome (WentOn (SendsTo of_link c) SentRedirects last reply budget links map new_links new_map)
      → IfErr outcome (DidNotGoOn (SendsTo of_link c) SentRedirects last reply budget links map new_links new_map)
      → RoundOn of_link c node reply old (on_after new_links new_map failed) sent
  round_goes_on last one other new_links new_map outcome sent failed ends w d =
      let same : last ≡ node = same_node (last_used links) last node one.0 other.0 one.1 other.1 in
      goes_on new_links new_map outcome sent failed ends (rw same at w) (rw same at d)

-- a command that was sent over the link to its first node, which works
module _ {L : Type 0} (of_link : L → Connection) (c : Command) (route : Route) (links : Links L) (map : List SlotRange)
    (budget : ℕ) (reads : ReadFrom) (stale : Bool) (old : Cluster L)
    (view : record { links = links; map = map; budget = budget; reads = reads; stale = stale } ≡ old)
    (place : ℕ) (is_first : IsFirstPlace of_link c route old place) (answer : Result Value RedisError) (middle : Links L)
    (uses : UsesLast of_link (λ before after. SendsOver before after false c answer) (record links { last = place }) middle) where
  abbrev after : Links L → List SlotRange → Bool → Cluster L
  after new_links new_map failed =
      record { links = new_links; map = new_map; budget = budget; reads = reads; stale = failed }

  abbrev node : NodeAddr
  node = is_first.0

  is_open : IsOpenAt of_link place node links
  is_open = subst (λ o. IsOpenAt of_link place node o.links) (sym view) is_first.1.1

  sent_over : SendsTo of_link c links middle node false (Answered answer)
  sent_over = answered answer (record links { last = place })
      (kept place is_open.0 is_open.1.0 is_open.1.1 refl refl) uses refl

  as_round : (new : Cluster L) (r : Result Sent RedisError)
      → (first_node (only_reads c) route (record { links = links; map = map; budget = budget; reads = reads; stale = stale }) ≡ Some node
      → Round of_link c route (record { links = links; map = map; budget = budget; reads = reads; stale = stale }) new r)
      → Round of_link c route old new r
  as_round new r made = subst (λ o. first_node (only_reads c) route o ≡ Some node → Round of_link c route o new r) view made is_first.1.0

  is_failed : (r : Result Value RedisError) → is_err r ≡ has_failed (Answered r)
  is_failed (Ok reply) = refl
  is_failed (Err e) = refl

  pub answered_at_once : ((n : NodeAddr) → SentRedirects n (Answered answer) Stays) → (failed : Bool) → failed ≡ is_err answer
      → Rounds of_link c route old (after middle map failed) answer
  answered_at_once stays failed failed_is = rw (failed_is, is_failed answer) (once (Ok (Answered answer))
      (as_round (after middle map (has_failed (Answered answer))) (Ok (Answered answer)) (λ first. followed node middle map (Answered answer) first
      (sent_once (SendsTo of_link c) SentRedirects node (Answered answer) budget links middle map sent_over map None
      (record { redirect = Stays; reads = stays node; learnt = refl; next_is = refl }) (inl refl)) refl refl)) refl)

  -- the link that was used last leads to that node
  last_is : IsLastNode node middle
  last_is = (
    uses.after,
    ap last_used uses.new_is ∙ set_there links.links place (link_to uses.node uses.after)
        (link_to uses.node uses.before) uses.is_last
        ∙ ap (λ n. Some (link_to n uses.after))
        (same_node (slice_get links.links place) uses.node node uses.before is_open.0 uses.is_last is_open.1.0),
  )

  went_on_then : (new : Cluster L) (sent : Sent) → RoundOn of_link c node (Answered answer) (after middle map stale) new sent
      → Round of_link c route old new (Ok sent)
  went_on_then new sent (went new_links new_map w new_is) = as_round new (Ok sent) (λ first. followed node new_links new_map sent first
      (went_then (SendsTo of_link c) SentRedirects node (Answered answer) budget links middle map sent_over new_links new_map sent w) new_is refl)
  went_on_then new sent (stopped new_links new_map s new_is) = as_round new (Ok sent) (λ first. cut_short node new_links new_map sent first
      (stopped_then (SendsTo of_link c) SentRedirects node (Answered answer) budget links middle map sent_over new_links new_map sent s) new_is refl)

  any_then : (new : Cluster L) (outcome : Result Sent RedisError) → (sent : Sent)
      × ((outcome ≡ Ok sent) × RoundOn of_link c node (Answered answer) (after middle map stale) new sent)
      → Round of_link c route old new outcome
  any_then new outcome (sent, (is, goes)) = subst (Round of_link c route old new) (sym is) (went_on_then new sent goes)

  by_rounds_on : (new : Cluster L) (r : Result Value RedisError)
      → RoundsOn of_link c route node (Answered answer) (after middle map stale) new r → Rounds of_link c route old new r
  by_rounds_on new r (once outcome goes is) = once outcome (any_then new outcome goes) is
  by_rounds_on new r (again outcome unreached goes is more) = again outcome unreached (any_then unreached outcome goes) is more

  pub rounds_then : (new : Cluster L) (r : Result Value RedisError)
      → ((n : NodeAddr) → IsLastNode n middle → RoundsOn of_link c route n (Answered answer) (after middle map stale) new r)
      → Rounds of_link c route old new r
  rounds_then new r goes = by_rounds_on new r (goes node last_is)

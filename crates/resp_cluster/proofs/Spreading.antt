-- The nodes that commands are sent to.
use Rattle.std.proofs.Common.{◌≡◌, ◌≢◌, ℕ, zero, suc, ◌+◌, ◌<◌, ◌≤◌, List, [], ◌∷◌, ◌++◌, All, AllPairs, length, take, get_or, slice_get}
use Rattle.std.specs.Global.{Vec}
use Rattle.std.proofs.Common.{Bool, true, false, ◌||◌, Result, Ok, Err, is_err, subst, refl, sym, ap, ◌∙◌, Some, None, inl, inr, arith, length-append}
use Rattle.std.proofs.lemmas.Bool.{cases_lt}
use Rattle.std.proofs.lemmas.List.{take_all, take_more, get_or_append_left, get_or_push}
use Rattle.std.proofs.lemmas.List.Elements.{All-push}
use Rattle.std.proofs.lemmas.List.Quantifiers.{all_pairs_push}
use Rattle.resp_command.specs.Command.{Command}
use Rattle.resp_command.specs.Call.{AnswersFrom, Call}
use Rattle.resp_command.specs.Connection.{Connection}
use Rattle.resp_errors.specs.declared.redis_error.RedisError.{RedisError}
use Rattle.resp_value.specs.declared.value.Value.{Value}
use Rattle.resp_cluster.specs.Cluster.{Cluster, Readies, answer_of, has_failed}
use Rattle.resp_cluster.specs.Gathered.{Gathered, RefusedGroup, StopsAt}
use Rattle.resp_cluster.specs.Links.{Links, Reaches, SendsTo, SentRedirects, UsesLast}
use Rattle.resp_cluster.specs.Routed.{StoppedShort, WentOn, at_once, nowhere}
use Rattle.resp_cluster.specs.Spread.{AreDestinations, FollowsReply, IsDestination, IsPlaceAmong, SendsGroup, SpreadRefused, awaited}
use Rattle.resp_cluster.specs.Spread.{at_group, called, on_the_way, stopped, unreached, went}
use Rattle.resp_cluster.specs.declared.redirect.Redirect.TheVariants.{Stays}
use Rattle.resp_cluster.specs.declared.links.Sent.{Sent}
use Rattle.resp_cluster.specs.declared.links.Sent.TheVariants.{Answered}
use Rattle.resp_cluster.specs.declared.node.SlotRange.{SlotRange}
use Rattle.resp_cluster.specs.declared.node.NodeAddr.{NodeAddr}
use Rattle.resp_cluster.specs.declared.read_from.ReadFrom.{ReadFrom}

-- what stands in a list that grew by one
got_old : {A : Type 0} (xs : List A) (y x : A) (i : ℕ) → i < length xs → slice_get (xs ++ y ∷ []) i ≡ Some x → slice_get xs i ≡ Some x
got_old [] y x i h e = absurd (omega arith)
got_old (z ∷ xs) y x zero h e = e
got_old (z ∷ xs) y x (suc i) h e = got_old xs y x i (omega arith) e

got_new : {A : Type 0} (xs : List A) (y x : A) (i : ℕ) → length xs ≡ i → slice_get (xs ++ y ∷ []) i ≡ Some x → y ≡ x
got_new [] y x zero h e = cc
got_new [] y x (suc i) h e = absurd (omega arith)
got_new (z ∷ xs) y x zero h e = absurd (omega arith)
got_new (z ∷ xs) y x (suc i) h e = got_new xs y x i (omega arith) e

got_inside : {A : Type 0} (xs : List A) (x : A) (i : ℕ) → slice_get xs i ≡ Some x → i < length xs
got_inside [] x i e = cc
got_inside (z ∷ xs) x zero e = omega arith
got_inside (z ∷ xs) x (suc i) e = let h = got_inside xs x i e in omega arith

got_last : {A : Type 0} (xs : List A) (y : A) → slice_get (xs ++ y ∷ []) (length xs) ≡ Some y
got_last [] y = refl
got_last (x ∷ xs) y = got_last xs y

-- a node that was not among others was added
pub added : (nodes : List NodeAddr) (node it : NodeAddr) (nodes' : List NodeAddr) (seen place : ℕ)
    → All (λ other. other ≢ node) (take seen nodes) → length nodes ≤ seen → it ≡ node → nodes' ≡ nodes ++ it ∷ []
    → place ≡ length nodes → IsPlaceAmong nodes node nodes' place
added nodes node it nodes' seen place none past same grown counted = rw (grown, same, counted) (record {
  inside = rw (length-append nodes (node ∷ [])) (omega arith);
  there = got_last nodes node;
  grown = inr (refl, rw (← take_all seen nodes past) none);
})

module _ (nodes : List NodeAddr) (node : NodeAddr) (nodes' : List NodeAddr) (place : ℕ) (among : IsPlaceAmong nodes node nodes' place) where
  longer : length nodes ≤ length nodes'
  longer = elim among.grown [
    | inl same ↦ rw same (omega arith)
    | inr more ↦ rw (more.0, length-append nodes (node ∷ [])) (omega arith)
  ]

  kept_at : (i : ℕ) (n : NodeAddr) → i < length nodes → slice_get nodes' i ≡ Some n → slice_get nodes i ≡ Some n
  kept_at i n inside e = elim among.grown [
    | inl same ↦ rw same at e
    | inr more ↦ got_old nodes node n i inside (rw more.0 at e)
  ]

  apart' : AllPairs (λ one other. one ≢ other) nodes → AllPairs (λ one other. one ≢ other) nodes'
  apart' h = elim among.grown [
    | inl same ↦ rw same h
    | inr more ↦ rw more.0 (all_pairs_push (λ one other. one ≢ other) nodes node h more.1)
  ]

  module _ {L : Type 0} (cluster : Cluster L) (commands : List Command) (command : Command) (targets : List ℕ)
      (h : AreDestinations cluster commands nodes targets) (is : IsDestination cluster command node) where
    old_each : (i : ℕ) (c : Command) (n : NodeAddr) → i < length commands → slice_get (commands ++ command ∷ []) i ≡ Some c
        → slice_get nodes' (get_or (targets ++ place ∷ []) i 0) ≡ Some n → IsDestination cluster c n
    old_each i c n inside e f =
        let whole = h.whole in
        let known : get_or targets i 0 < length nodes = h.known i 0 (omega arith) in
        let f = rw (get_or_append_left targets (place ∷ []) 0 i (omega arith)) at f in
        h.each i c n (got_old commands command c i inside e) (kept_at (get_or targets i 0) n known f)

    new_each : (i : ℕ) (c : Command) (n : NodeAddr) → length commands ≡ i → slice_get (commands ++ command ∷ []) i ≡ Some c
        → slice_get nodes' (get_or (targets ++ place ∷ []) i 0) ≡ Some n → IsDestination cluster c n
    new_each i c n at e f =
        let f = rw (get_or_push targets place 0 i (h.whole ∙ at)) at f in
        let same : node ≡ n = some_same (sym among.there ∙ f) in
        rw (← got_new commands command c i at e, ← same) is
      where
        some_same : {a b : NodeAddr} → Some a ≡ Some b → a ≡ b
        some_same e' = cc

    each' : (i : ℕ) (c : Command) (n : NodeAddr) → slice_get (commands ++ command ∷ []) i ≡ Some c
        → slice_get nodes' (get_or (targets ++ place ∷ []) i 0) ≡ Some n → IsDestination cluster c n
    each' i c n e f =
        let inside = got_inside (commands ++ command ∷ []) c i e in
        let long = length-append commands (command ∷ []) in
        elim (cases_lt i (length commands)) [
          | inl old ↦ old_each i c n old e f
          | inr new ↦ new_each i c n (omega (arith, inside, long)) e f
        ]

    pub one_command_more : AreDestinations cluster (commands ++ command ∷ []) nodes' (targets ++ place ∷ [])
    one_command_more = record {
      whole = rw (length-append targets (place ∷ []), length-append commands (command ∷ [])) (ap (λ m. m + 1) h.whole);
      known = All-push (λ t. t < length nodes') targets place (λ i d inside. let k = h.known i d inside in omega (arith, longer, k)) among.inside;
      each = each';
      apart = apart' h.apart;
    }

pub next_destination : {L : Type 0} (cluster : Cluster L) (commands : List Command) (at : ℕ) (command : Command) (nodes : List NodeAddr)
    (node : NodeAddr) (nodes' : List NodeAddr) (place : ℕ) (targets : List ℕ) → AreDestinations cluster (take at commands) nodes targets
    → at < length commands → command ≡ get_or commands at command → IsDestination cluster command node
    → IsPlaceAmong nodes node nodes' place
    → AreDestinations cluster (take (at + 1) commands) nodes' (targets ++ place ∷ [])
next_destination cluster commands at command nodes node nodes' place targets h within at_is is among =
    rw (take_more commands at command within, ← at_is) (one_command_more nodes node nodes' place among cluster (take at commands)
    command targets h is)

-- a command whose reply is waited for is that already
pub awaited_is : (c : Command) → c.no_response ≡ false → awaited c ≡ c
awaited_is c is = ap (λ b. record c { no_response = b }) (sym is)

-- ---- a call that was made from these parts of a cluster

pub or_true : (b : Bool) → true ≡ b || true
or_true true = refl
or_true false = refl

pub or_false : (b : Bool) → b ≡ b || false
or_false true = refl
or_false false = refl

module _ {L : Type 0} (of_link : L → Connection) (links : Links L) (map : List SlotRange) (budget : ℕ) (reads : ReadFrom) (stale : Bool)
    (old : Cluster L) (view : record { links = links; map = map; budget = budget; reads = reads; stale = stale } ≡ old)
    (node : NodeAddr) where
  abbrev after : Links L → List SlotRange → Bool → Cluster L
  after new_links new_map failed = record { links = new_links; map = new_map; budget = budget; reads = reads; stale = failed }

  module _ (request : List ℕ) (count : ℕ) (new_links : Links L) where
    pub sent_unreached : (e : RedisError) → Reaches of_link node links new_links (Err e)
        → SendsGroup of_link old (after new_links map true) node request count (Err e)
    sent_unreached e h = subst (λ o. SendsGroup of_link o (after new_links map true) node request count (Err e)) view
        (unreached e new_links h (ap (after new_links map) (or_true stale)) refl)

    module _ (reached : Links L) (r : Result (Vec Value) RedisError) (h : Reaches of_link node links reached (Ok tt))
        (calls : UsesLast of_link (λ b a. Call b a ⊥ ⊥ request count r (AnswersFrom (λ vs. vs.items) 0 r)) reached new_links) where
      from_view : (failed : Bool) → failed ≡ stale || is_err r
          → SendsGroup of_link old (after new_links map failed) node request count r
      from_view failed is = subst (λ o. SendsGroup of_link o (after new_links map failed) node request count r) view
          (called reached new_links h calls (ap (after new_links map) is))

      pub sent_refused : is_err r ≡ true → SendsGroup of_link old (after new_links map true) node request count r
      sent_refused is = from_view true (or_true stale ∙ ap (λ b. stale || b) (sym is))

      pub sent_given : is_err r ≡ false → SendsGroup of_link old (after new_links map stale) node request count r
      sent_given is = from_view stale (or_false stale ∙ ap (λ b. stale || b) (sym is))

  module _ (c : Command) (reply : Value) (new_links : Links L) (new_map : List SlotRange) (sent : Sent) where
    module _ (plain : c.no_response ≡ false)
        (h : WentOn (SendsTo of_link c) SentRedirects node (Answered (Ok reply)) budget links map new_links new_map sent) where
      went_from : (failed : Bool) → failed ≡ stale || has_failed sent
          → FollowsReply of_link old (after new_links new_map failed) node c reply (answer_of (Ok sent))
      went_from failed is = subst (λ o. FollowsReply of_link o (after new_links new_map failed) node c reply (answer_of (Ok sent)))
          view (went new_links new_map sent (subst (λ k. WentOn (SendsTo of_link k) SentRedirects node (Answered (Ok reply))
          budget links map new_links new_map sent) (sym (awaited_is c plain)) h) (ap (after new_links new_map) is) refl)

      pub went_refused : has_failed sent ≡ true
          → FollowsReply of_link old (after new_links new_map true) node c reply (answer_of (Ok sent))
      went_refused is = went_from true (or_true stale ∙ ap (λ b. stale || b) (sym is))

      pub went_given : has_failed sent ≡ false
          → FollowsReply of_link old (after new_links new_map stale) node c reply (answer_of (Ok sent))
      went_given is = went_from stale (or_false stale ∙ ap (λ b. stale || b) (sym is))

    of_stopped : StoppedShort (SendsTo of_link (awaited c)) SentRedirects node (Answered (Ok reply)) budget links map new_links new_map sent
        → FollowsReply of_link old (after new_links new_map true) node c reply (answer_of (Ok sent))
    of_stopped h = subst (λ o. FollowsReply of_link o (after new_links new_map true) node c reply (answer_of (Ok sent))) view
        (stopped new_links new_map sent h (ap (after new_links new_map) (or_true stale)) refl)

    pub stopped_short : c.no_response ≡ false
        → StoppedShort (SendsTo of_link c) SentRedirects node (Answered (Ok reply)) budget links map new_links new_map sent
        → FollowsReply of_link old (after new_links new_map true) node c reply (answer_of (Ok sent))
    stopped_short plain h = of_stopped (subst (λ k. StoppedShort (SendsTo of_link k) SentRedirects node (Answered (Ok reply))
        budget links map new_links new_map sent) (sym (awaited_is c plain)) h)

  -- memory ran out for the command as one whose reply is waited for
  pub not_followed : (c : Command) (reply : Value) → FollowsReply of_link old (after links map true) node c reply (Ok reply)
  not_followed c reply = of_stopped c reply links map (Answered (Ok reply)) (at_once refl refl refl)

-- a reply that does not redirect is the answer
pub stays_there : {L : Type 0} (of_link : L → Connection) (old : Cluster L) (node : NodeAddr) (c : Command) (reply : Value)
    → SentRedirects node (Answered (Ok reply)) Stays → FollowsReply of_link old old node c reply (Ok reply)
stays_there of_link old node c reply reads = went old.links old.map (Answered (Ok reply))
    (nowhere None (record { redirect = Stays; reads = reads; learnt = refl; next_is = refl }) (inl refl) refl refl)
    (ap (λ b. record old { stale = b }) (or_false old.stale)) refl

pub of_awaited : {L : Type 0} (of_link : L → Connection) (old new : Cluster L) (node : NodeAddr) (c : Command) (reply : Value)
    (r : Result Value RedisError) → FollowsReply of_link old new node (awaited c) reply r → FollowsReply of_link old new node c reply r
of_awaited of_link old new node c reply r (went links map sent h new_is r_is) = went links map sent h new_is r_is
of_awaited of_link old new node c reply r (stopped links map sent h new_is r_is) = stopped links map sent h new_is r_is

-- ---- how commands over a cluster are refused

module _ {L : Type 0} (of_link : L → Connection) (commands : List Command) (old ready new : Cluster L) (nodes : List NodeAddr)
    (targets : List ℕ) (readies : Readies of_link old ready) (are : AreDestinations ready commands nodes targets) (e : RedisError) where
  pub group_refused : RefusedGroup (SendsGroup of_link) commands targets nodes ready new e
      → SpreadRefused of_link commands old new e
  group_refused refused = at_group ready nodes targets readies are refused

  pub way_refused : (gathered : Cluster L) (replies : List Value)
      → Gathered (SendsGroup of_link) commands targets nodes ready replies gathered
      → StopsAt (FollowsReply of_link) nodes gathered targets commands replies e new
      → SpreadRefused of_link commands old new e
  way_refused gathered replies sent stops = on_the_way ready gathered nodes targets replies readies are sent stops

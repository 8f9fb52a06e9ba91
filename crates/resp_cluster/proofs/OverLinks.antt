-- A command over a cluster's links is a call of a connection that routes.
use Rattle.std.proofs.Common.{◌≡◌, ◌≢◌, ℕ, Bool, true, false, List, [], ◌∷◌, ◌++◌, Option, None, Some, Result, Ok, Err}
use Rattle.std.proofs.Common.{refl, sym, ap, subst, ◌∙◌, arith, length, get_or, set, option_map}
use Rattle.std.specs.List.{slice_get}
use Rattle.std.proofs.lemmas.Grind.{common_steps}
use Rattle.std.proofs.lemmas.Option.{slice_get_within, slice_get_read}
use Rattle.std.proofs.Math.Seq.{get_or-append_seam}
use Rattle.std.proofs.Common.{length-append}
use Rattle.resp_value.specs.declared.value.Value.{Value}
use Rattle.resp_errors.specs.declared.redis_error.RedisError.{RedisError}
use Rattle.resp_command.specs.Call.{Asks, AnswersReply, Call, CommandCall, needed, Routes, carried, not_carried}
use Rattle.resp_command.specs.Command.{Command}
use Rattle.resp_command.specs.Connection.{Connection, stays, reconnects, routes}
use Rattle.resp_command.specs.Packed.{packed}
use Rattle.resp_command.specs.Parted.{Parted}
use Rattle.resp_command.specs.Subscriptions.{IsUnanswered}
use Rattle.resp_command.proofs.OtherKinds.{asks}
use Rattle.resp_routing.specs.declared.routes.Route.{Route}
use Rattle.resp_cluster.specs.Cluster as over
use Rattle.resp_cluster.specs.Cluster.{Cluster, Round, Rounds, RoutedCall, OnceMore, answer_of, last_link}
use Rattle.resp_cluster.specs.Cluster.{reached as reached_answer}
use Rattle.resp_cluster.specs.Links as links
use Rattle.resp_cluster.specs.Links.{Links, Reaches, SendsOver, SendsTo, UsesLast, asking_bytes, last_used, link_to}
use Rattle.resp_cluster.specs.Routing.{cluster_connection, routing, routing_over}
use Rattle.resp_cluster.specs.declared.links.NodeLink.{NodeLink}
use Rattle.resp_cluster.specs.declared.links.Sent.{Sent}
use Rattle.resp_cluster.specs.declared.links.Sent.TheVariants.{Unreached, Answered}
use Rattle.resp_cluster.specs.declared.node.NodeAddr.{NodeAddr}
use Rattle.resp_cluster.proofs.Told.{told_works}

-- ---- places

module _ {X : Type 0} where
  pub set_there : (xs : List X) (k : ℕ) (x y : X) → slice_get xs k ≡ Some y → slice_get (set xs k x) k ≡ Some x
  set_there xs k x y at =
      let lt = slice_get_within xs k y at in
      let len : length (set xs k x) ≡ length xs = grind (arith, common_steps) in
      let is : x ≡ get_or (set xs k x) k x = grind (arith, common_steps) in
      slice_get_read (set xs k x) (length xs) k x (sym len) lt is

  last_there : (xs : List X) (x : X) → slice_get (xs ++ x ∷ []) (length xs) ≡ Some x
  last_there xs x = slice_get_read (xs ++ x ∷ []) (length (xs ++ x ∷ [])) (length xs) x refl
      (let len = length-append xs (x ∷ []) in omega (arith, len)) (sym (get_or-append_seam xs x [] x))

module _ {L : Type 0} (of_link : L → Connection) where
  same_works : (used : Option (NodeLink L)) (n m : NodeAddr) (x y : L) → used ≡ Some (link_to n x) → used ≡ Some (link_to m y)
      → (of_link y).broken ≡ false → (of_link x).broken ≡ false
  same_works used n m x y is other works =
      let e : Some (link_to n x) ≡ Some (link_to m y) = sym is ∙ other in
      let l : link_to n x ≡ link_to m y = cc in
      ap (λ i. (of_link i.link).broken) l ∙ works

  pub reached_works : (node : NodeAddr) (old new : Links L) → Reaches of_link node old new (Ok tt) → (n : NodeAddr) (x : L)
      → last_used new ≡ Some (link_to n x) → (of_link x).broken ≡ false
  reached_works node old new (links.kept place link at works new_is r_is) n x is =
      same_works (last_used new) n node x link is (ap last_used new_is ∙ at) works
  reached_works node old new (links.reopened place lost link at broken works new_is r_is) n x is =
      same_works (last_used new) n node x link is
      (ap last_used new_is ∙ set_there old.links place (link_to node link) (link_to node lost) at) works
  reached_works node old new (links.opened link none works new_is r_is) n x is =
      same_works (last_used new) n node x link is (ap last_used new_is ∙ last_there old.links (link_to node link)) works
  reached_works node old new (links.unopened e none new_is r_is) n x is = absurd (let h = r_is in cc)
  reached_works node old new (links.unreopened e place lost at broken new_is r_is) n x is = absurd (let h = r_is in cc)

-- ---- the call that is answered

module _ {L : Type 0} (of_link : L → Connection) (unrouted : (link : L) → (of_link link).policy ≢ routes) (c : Command) (v : Value) where
  abbrev answer : Result Value RedisError
  answer = Ok v

  abbrev answers : List Value → Type 0
  answers = AnswersReply (λ reply. answer ≡ Ok reply)

  -- a link that works carried the command, and was used last
  pub record Carries (new : Links L) : Type 0 where
    pub before : Connection
    pub after : L
    pub works : before.broken ≡ false
    pub asks : Asks before (of_link after) (c.args ≡ []) (IsUnanswered c) (packed c.args) (needed c) answer answers
    pub is_last : last_link new ≡ Some after

  by_call : (before after : Connection) → before.broken ≡ false → before.policy ≢ routes → (asking : Bool)
      → SendsOver before after asking c (Ok v)
      → (b : Connection) × ((b.broken ≡ false)
      × Asks b after (c.args ≡ []) (IsUnanswered c) (packed c.args) (needed c) answer answers)
  by_call before after works free asking (links.plain is call) = (before, (works, call.when_working works free))
  by_call before after works free asking (links.after_asking between is asked call) =
      let h = told_works asking_bytes (λ none. absurd (let e = none in cc)) before between works free asked in
      (between, (h.0, call.when_working h.0 (λ e. free (sym h.1 ∙ e))))
  by_call before after works free asking (links.not_asked e is asked r_is) = absurd (let h = r_is in cc)

  pub by_sends : (old new : Links L) (node : NodeAddr) (asking : Bool) (sent : Sent) → sent ≡ Answered (Ok v)
      → SendsTo of_link c old new node asking sent → Carries new
  by_sends old new node asking sent is (links.unreached e reaches sent_is) =
      absurd (let h : Answered (Ok v) ≡ Unreached e = sym is ∙ sent_is in cc)
  by_sends old new node asking sent is (links.answered r reached reaches uses sent_is) =
      let same : Answered r ≡ Answered (Ok v) = sym sent_is ∙ is in
      let r_is : r ≡ Ok v = cc in
      let calls : SendsOver (of_link uses.before) (of_link uses.after) asking c (Ok v)
      = subst (λ x. SendsOver (of_link uses.before) (of_link uses.after) asking c x) r_is uses.calls in
      let h = by_call (of_link uses.before) (of_link uses.after)
      (reached_works of_link node old reached reaches uses.node uses.before uses.is_last)
      (unrouted uses.before) asking calls in
      record {
        before = h.0;
        after = uses.after;
        works = h.1.0;
        asks = h.1.1;
        is_last = ap (λ l. last_link l) uses.new_is
            ∙ ap (option_map (λ link. link.link)) (set_there reached.links reached.last (link_to uses.node uses.after)
            (link_to uses.node uses.before) uses.is_last);
      }

  by_round : (route : Route) (old new : Cluster L) (r : Result Sent RedisError) → r ≡ Ok (Answered (Ok v))
      → Round of_link c route old new r → Carries new.links
  by_round route old new r is (over.followed node ls map sent first f new_is r_is) =
      let same : Ok sent ≡ Ok (Answered (Ok v)) = sym r_is ∙ is in
      let sent_is : sent ≡ Answered (Ok v) = cc in
      subst Carries (sym (ap (λ k. k.links) new_is)) (by_sends f.last.nodes ls f.last.to.0 f.last.to.1 sent sent_is f.sent)
  by_round route old new r is (over.cut_short node ls map sent first f new_is r_is) =
      let same : Ok sent ≡ Ok (Answered (Ok v)) = sym r_is ∙ is in
      let sent_is : sent ≡ Answered (Ok v) = cc in
      subst Carries (sym (ap (λ k. k.links) new_is)) (by_sends f.last.nodes ls f.last.to.0 f.last.to.1 sent sent_is f.sent)
  by_round route old new r is (over.nowhere none new_is r_is) = absurd (let h = sym r_is ∙ is in cc)
  by_round route old new r is (over.no_memory new_is r_is) = absurd (let h = sym r_is ∙ is in cc)

  pub answered_then : (r : Result Sent RedisError) → Ok v ≡ answer_of r → r ≡ Ok (Answered (Ok v))
  answered_then (Ok (Answered x)) is = ap (λ y. Ok (Answered y)) (sym is)
  answered_then (Ok (Unreached e)) is = cc
  answered_then (Err e) is = cc

  reached_then : (r : Result Sent RedisError) → reached_answer r ≡ Some (Ok v) → r ≡ Ok (Answered (Ok v))
  reached_then (Ok (Answered x)) is = let same : x ≡ Ok v = cc in ap (λ y. Ok (Answered y)) same
  reached_then (Ok (Unreached e)) is = cc
  reached_then (Err e) is = cc

  by_rounds : (route : Route) (old new : Cluster L) → Rounds of_link c route old new (Ok v) → Carries new.links
  by_rounds route old new (over.once outcome round is) = by_round route old new outcome (reached_then outcome is) round
  by_rounds route old new (over.again outcome unreached round is more) =
      by_round route more.ready new more.outcome (answered_then more.outcome more.answers) more.sends

  by_routed : (old new : Cluster L) → RoutedCall of_link c old new (Ok v) → Carries new.links
  by_routed old new (over.unsent e cannot new_is r_is) = absurd (let h = r_is in cc)
  by_routed old new (over.routed route ready goes readies rounds) = by_rounds route ready new rounds

-- ---- as a connection

module _ {L : Type 0} (of_link : L → Connection) where
  pub policy_is : (link : Option L) → (routing_over of_link link).policy ≡ routes
  policy_is None = refl
  policy_is (Some link) = refl

  -- a call that is refused, or made over links
  pub routed : {A : Type 0} (IsEmpty IsUnanswered : Type 0) (q : List ℕ) (n : ℕ) (r : Result A RedisError)
      (answers : List Value → Type 0) (old new : Cluster L)
      → Routes r (λ other. Asks other (cluster_connection of_link new) IsEmpty IsUnanswered q n r answers) (Parted q n answers)
      → Call (cluster_connection of_link old) (cluster_connection of_link new) IsEmpty IsUnanswered q n r answers
  routed IsEmpty IsUnanswered q n r answers old new h = record {
    policy = policy_is (last_link new.links) ∙ sym (policy_is (last_link old.links));
    when_broken = λ b is. absurd (let e : stays ≡ routes = sym is ∙ policy_is (last_link old.links) in cc);
    when_lost = λ b is. absurd (let e : reconnects ≡ routes = sym is ∙ policy_is (last_link old.links) in cc);
    when_routed = λ is. h;
    when_working = λ works free. absurd (free (policy_is (last_link old.links)));
  }

  module _ (unrouted : (link : L) → (of_link link).policy ≢ routes) (c : Command) (old new : Cluster L) where
    by_result : (x : Result Value RedisError) → RoutedCall of_link c old new x
        → Routes x (λ other. Asks other (cluster_connection of_link new) (c.args ≡ []) (IsUnanswered c) (packed c.args)
        (needed c) x (AnswersReply (λ reply. x ≡ Ok reply))) (Parted (packed c.args) (needed c) (AnswersReply (λ reply. x ≡ Ok reply)))
    by_result (Err e) call = not_carried e refl
    by_result (Ok v) call =
        let h = by_routed of_link unrouted c v old new call in
        carried (routing h.before) h.works (subst (λ link. Asks (routing h.before) (routing_over of_link link) (c.args ≡ [])
        (IsUnanswered c) (packed c.args) (needed c) (answer of_link unrouted c v) (answers of_link unrouted c v)) (sym h.is_last)
        (asks (λ _. true) routes h.before (of_link h.after) (packed c.args) (needed c) (answer of_link unrouted c v) (answers of_link unrouted c v) (c.args ≡ [])
        (IsUnanswered c) h.asks))

    pub routed_call : (r : Result Value RedisError) → RoutedCall of_link c old new r
        → CommandCall (cluster_connection of_link old) (cluster_connection of_link new) c r (λ reply. r ≡ Ok reply)
    routed_call r call = routed (c.args ≡ []) (IsUnanswered c) (packed c.args) (needed c) r (AnswersReply (λ reply. r ≡ Ok reply)) old new
        (by_result r call)

  -- a call that is refused
  pub refused_call : {A : Type 0} (IsEmpty IsUnanswered : Type 0) (q : List ℕ) (n : ℕ) (e : RedisError)
      (answers : List Value → Type 0) (old new : Cluster L) (r : Result A RedisError) → r ≡ Err e
      → Call (cluster_connection of_link old) (cluster_connection of_link new) IsEmpty IsUnanswered q n r answers
  refused_call IsEmpty IsUnanswered q n e answers old new r is =
      routed IsEmpty IsUnanswered q n r answers old new (not_carried e is)

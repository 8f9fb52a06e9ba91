-- Packed commands over a cluster's links are a call of a connection that routes.
use Rattle.std.proofs.Common.{◌≡◌, ◌≢◌, ℕ, ◌+◌, true, false, List, [], ◌∷◌, ◌++◌, drop, length, All, IfOk, Some, Result, Ok, Err}
use Rattle.std.proofs.Common.{refl, sym, ap, subst, ◌∙◌, arith, append-nil, option_map}
use Rattle.std.specs.Prelude.{slice_index_or}
use Rattle.std.specs.Global.{Vec}
use Rattle.resp_value.specs.declared.value.Value.{Value}
use Rattle.resp_errors.specs.declared.redis_error.RedisError.{RedisError}
use Rattle.resp_command.specs.Call.{AnswersFrom, AnswersReply, Asks, Call, CommandCall, PackedCall, Routes, carried, needed, not_carried, parted}
use Rattle.resp_command.specs.Command.{Command}
use Rattle.resp_command.specs.Connection.{Connection, Exchange, routes}
use Rattle.resp_command.specs.Packed.{packed}
use Rattle.resp_command.specs.Parted.{Parted, multi_bytes}
use Rattle.resp_command.specs.Subscriptions.{IsUnanswered}
use Rattle.resp_command.proofs.OtherKinds.{exchange}
use Rattle.resp_command.proofs.Queries.{exchange_ok, parted_turned}
use Rattle.resp_cluster.specs.Cluster.{Cluster, last_link}
use Rattle.resp_cluster.specs.Gathered.{request_of}
use Rattle.resp_cluster.specs.Links.{link_to}
use Rattle.resp_cluster.specs.Routing.{RepliedTo, WasSentWhole, by_one, in_parts, cluster_connection, routing, routing_over}
use Rattle.resp_cluster.specs.Spread.{SendsGroup, SpreadCall, called, unreached}
use Rattle.resp_cluster.specs.declared.node.NodeAddr.{NodeAddr}
use Rattle.resp_cluster.proofs.OverLinks.{policy_is, reached_works, refused_call, routed, set_there}
use Rattle.resp_cluster.proofs.Parts.{OneReply, answer_of_reply, as_many, parts}

-- the one command of a list
pub alone : {A : Type 0} (xs : List A) (d : A) → length xs ≡ 1 → xs ≡ slice_index_or xs 0 d ∷ []
alone [] d h = absurd (omega (arith, h))
alone (x ∷ []) d h = refl
alone (x ∷ y ∷ xs) d h = absurd (omega (arith, h))

module _ {L : Type 0} (of_link : L → Connection) (unrouted : (link : L) → (of_link link).policy ≢ routes) where
  -- what a link answered that was then used last
  over_last : (before : Connection) (after : L) (q : List ℕ) (n : ℕ) (replies : List Value) (new : Cluster L)
      → before.broken ≡ false → last_link new.links ≡ Some after
      → Exchange before (of_link after) q n (Ok replies) (λ given. given ≡ replies) → RepliedTo of_link q n replies new
  over_last before after q n replies new works is_last h =
      by_one (routing before) works (subst (λ link. Exchange (routing before) (routing_over of_link link) q n (Ok replies)
      (λ given. given ≡ replies)) (sym is_last)
      (exchange (λ _. true) routes before (of_link after) q n (Ok replies) (λ given. given ≡ replies) h))

  by_group : (q : List ℕ) (n : ℕ) (replies : Vec Value) (ready sent new : Cluster L) (node : NodeAddr)
      → new.links ≡ sent.links → SendsGroup of_link ready sent node q n (Ok replies) → RepliedTo of_link q n replies.items new
  by_group q n replies ready sent new node same (unreached e ls reaches new_is r_is) = absurd (let h = r_is in cc)
  by_group q n replies ready sent new node same (called reached ls reaches uses new_is) =
      let works = reached_works of_link node ready.links reached reaches uses.node uses.before uses.is_last in
      let asked = (uses.calls.when_working works (unrouted uses.before)).otherwise (λ k. k) (λ k. k) in
      over_last (of_link uses.before) uses.after q n replies.items new works
      (ap last_link (same ∙ ap (λ k. k.links) new_is ∙ uses.new_is)
      ∙ ap (option_map (λ link. link.link)) (set_there reached.links reached.last (link_to uses.node uses.after)
      (link_to uses.node uses.before) uses.is_last))
      (exchange_ok {A = Vec Value} {B = List Value} (of_link uses.after) q n (AnswersFrom (λ vs. vs.items) 0 (Ok replies))
      (λ given. given ≡ replies.items) (of_link uses.before) replies (Ok replies.items) (λ given len all. sym all) asked)

  pub by_whole : (q : List ℕ) (n : ℕ) (replies : Vec Value) (new : Cluster L) → WasSentWhole of_link q n replies new
      → RepliedTo of_link q n replies.items new
  by_whole q n replies new h = by_group q n replies h.ready h.sent new h.node h.links h.sends

  -- one command
  module _ (c : Command) (v : Value) (new : Cluster L) (waits : c.no_response ≡ false) where
    one : needed c ≡ 1
    one = rw waits refl

    only : (given : List Value) → length given ≡ needed c → OneReply v given → given ≡ v ∷ []
    only [] len is = let h = one in absurd (omega (arith, len, h))
    only (reply ∷ []) len is = let e : v ≡ reply = cc in ap (λ x. x ∷ []) (sym e)
    only (reply ∷ next ∷ more) len is = absurd is

    by_routes : Routes (Ok v) (λ other. Asks other (cluster_connection of_link new) (c.args ≡ []) (IsUnanswered c) (packed c.args)
        (needed c) (Ok v) (OneReply v)) (Parted (packed c.args) (needed c) (OneReply v))
        → RepliedTo of_link (request_of (c ∷ [])) 1 (v ∷ []) new
    by_routes (not_carried e is) = absurd (let h = is in cc)
    by_routes (carried other works asks) =
        let last = cluster_connection of_link new in
        let asked = asks.otherwise (λ none. let k = (asks.when_empty none).answer in cc)
        (λ none. let k = (asks.when_unanswered none).answer in cc) in
        let turned = exchange_ok {A = Value} {B = List Value} last (packed c.args) (needed c) (OneReply v) (λ given. given ≡ v ∷ [])
        other v (Ok (v ∷ [])) only asked in
        by_one other works
        (subst (λ q. Exchange other last q 1 (Ok (v ∷ [])) (λ given. given ≡ v ∷ [])) (sym (append-nil (packed c.args)))
        (subst (λ n. Exchange other last (packed c.args) n (Ok (v ∷ [])) (λ given. given ≡ v ∷ [])) one turned))
    by_routes (parted h) = absurd (h.several one)

  pub by_command : (c : Command) (v : Value) (old new : Cluster L) → c.no_response ≡ false
      → CommandCall (cluster_connection of_link old) (cluster_connection of_link new) c (Ok v) (λ reply. answer_of_reply v ≡ Ok reply)
      → RepliedTo of_link (request_of (c ∷ [])) 1 (v ∷ []) new
  by_command c v old new waits h = by_routes c v new waits (h.when_routed (policy_is of_link (last_link old.links)))

  -- ---- by what came of it

  pub whole_replies : (q : List ℕ) (n : ℕ) (new : Cluster L) (r : Result (Vec Value) RedisError)
      → IfOk r (λ replies. WasSentWhole of_link q n replies new) → IfOk r (λ replies. RepliedTo of_link q n replies.items new)
  whole_replies q n new (Ok replies) h = by_whole q n replies new h
  whole_replies q n new (Err e) h = h

  pub one_replied : (commands : List Command) (c : Command) (q : List ℕ) (new : Cluster L) (r : Result (Vec Value) RedisError)
      → length commands ≡ 1 → c ≡ slice_index_or commands 0 c → request_of commands ≡ q
      → IfOk r (λ replies. RepliedTo of_link (request_of (c ∷ [])) 1 replies.items new)
      → IfOk r (λ replies. RepliedTo of_link q (length commands) replies.items new)
  one_replied commands c q new (Ok replies) len at is h =
      subst (λ n. RepliedTo of_link q n replies.items new) (sym len)
      (subst (λ k. RepliedTo of_link k 1 replies.items new) (ap (λ k. request_of (k ∷ [])) at ∙ ap request_of (sym (alone commands c len)) ∙ is) h)
  one_replied commands c q new (Err e) len at is h = h

  pub spread_replies : (q : List ℕ) (commands : List Command) (old new : Cluster L) (r : Result (Vec Value) RedisError)
      → request_of commands ≡ q → All (λ (c : Command). c.no_response ≡ false) commands
      → ((rest : List ℕ) → q ≢ multi_bytes ++ rest) → length commands ≢ 1
      → IfOk r (λ answers. SpreadCall of_link commands old answers.items new)
      → IfOk r (λ replies. RepliedTo of_link q (length commands) replies.items new)
  spread_replies q commands old new (Ok answers) is plain no_multi several h =
      parts of_link unrouted q commands old answers.items new is plain no_multi several h
  spread_replies q commands old new (Err e) is plain no_multi several h = h

  pub as_many_replies : (commands : List Command) (old new : Cluster L) (r : Result (Vec Value) RedisError)
      → IfOk r (λ answers. SpreadCall of_link commands old answers.items new)
      → IfOk r (λ replies. length replies.items ≡ length commands)
  as_many_replies commands old new (Ok answers) h = as_many of_link unrouted commands old answers.items new h
  as_many_replies commands old new (Err e) h = h

  -- ---- the calls

  module _ (q : List ℕ) (old new : Cluster L) where
    pub answered : (offset count n : ℕ) (replies : List Value) (answers : Vec Value) → n ≡ offset + count
        → answers.items ≡ drop offset replies → RepliedTo of_link q n replies new
        → Call (cluster_connection of_link old) (cluster_connection of_link new) ⊥ ⊥ q (offset + count) (Ok answers)
        (AnswersFrom (λ vs. vs.items) offset (Ok answers))
    answered offset count n replies answers all are h =
        routed of_link ⊥ ⊥ q (offset + count) (Ok answers) (AnswersFrom (λ vs. vs.items) offset (Ok answers)) old new
        (subst (λ k. Routes (Ok answers) (λ other. Asks other (cluster_connection of_link new) ⊥ ⊥ q k (Ok answers)
        (AnswersFrom (λ vs. vs.items) offset (Ok answers))) (Parted q k (AnswersFrom (λ vs. vs.items) offset (Ok answers)))) all (by h))
      where
        turn : (given : List Value) → length given ≡ n → given ≡ replies → AnswersFrom (λ vs. vs.items) offset (Ok answers) given
        turn given len is = are ∙ ap (drop offset) (sym is)

        by : RepliedTo of_link q n replies new
            → Routes (Ok answers) (λ other. Asks other (cluster_connection of_link new) ⊥ ⊥ q n (Ok answers)
            (AnswersFrom (λ vs. vs.items) offset (Ok answers))) (Parted q n (AnswersFrom (λ vs. vs.items) offset (Ok answers)))
        by (by_one link works h) = carried link works (record {
          when_empty = λ k. absurd k;
          when_unanswered = λ k. absurd k;
          otherwise = λ _ _. exchange_ok {A = List Value} {B = Vec Value} (cluster_connection of_link new) q n
              (λ given. given ≡ replies) (AnswersFrom (λ vs. vs.items) offset (Ok answers)) link replies (Ok answers) turn h;
        })
        by (in_parts h) = parted (parted_turned q n (λ given. given ≡ replies)
            (AnswersFrom (λ vs. vs.items) offset (Ok answers)) turn h)

    -- a packed command
    pub packed_call : (c : Command) (r : Result Value RedisError) → request_of (c ∷ []) ≡ q → c.no_response ≡ false
        → CommandCall (cluster_connection of_link old) (cluster_connection of_link new) c r (λ reply. r ≡ Ok reply)
        → PackedCall (cluster_connection of_link old) (cluster_connection of_link new) q r
    packed_call c (Err e) is waits h =
        refused_call of_link (q ≡ []) ⊥ q 1 e (AnswersReply (λ reply. Err e ≡ Ok reply)) old new (Err e) refl
    packed_call c (Ok v) is waits h =
        routed of_link (q ≡ []) ⊥ q 1 (Ok v) (OneReply v) old new
        (by (subst (λ q'. RepliedTo of_link q' 1 (v ∷ []) new) is (by_command c v old new waits h)))
      where
        some : q ≡ [] → ⊥
        some none = let e : request_of (c ∷ []) ≡ [] = is ∙ none in cc

        turn : (given : List Value) → length given ≡ 1 → given ≡ v ∷ [] → OneReply v given
        turn given len is = subst (OneReply v) (sym is) refl

        by : RepliedTo of_link q 1 (v ∷ []) new
            → Routes (Ok v) (λ other. Asks other (cluster_connection of_link new) (q ≡ []) ⊥ q 1 (Ok v)
            (OneReply v)) (Parted q 1 (OneReply v))
        by (by_one link works h) = carried link works (record {
          when_empty = λ none. absurd (some none);
          when_unanswered = λ k. absurd k;
          otherwise = λ _ _. exchange_ok {A = List Value} {B = Value} (cluster_connection of_link new) q 1
              (λ given. given ≡ v ∷ []) (OneReply v) link (v ∷ []) (Ok v) turn h;
        })
        by (in_parts h) = absurd (h.several refl)

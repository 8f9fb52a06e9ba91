-- Each reply to commands over a cluster is one that a link that works gave to its command.
use Rattle.std.proofs.Common.{◌≡◌, ◌≢◌, ℕ, zero, suc, ◌<◌, Bool, false, List, [], ◌∷◌, ◌++◌, length, map, All}
use Rattle.std.proofs.Common.{refl, sym, ap, ◌∙◌, arith, Result, Ok, Some, slice_get, subst, append-nil}
use Rattle.std.proofs.lemmas.Option.{slice_get_within}
use Rattle.std.specs.Prelude.{slice_index_or}
use Rattle.std.specs.List.{AllZip, flat_map}
use Rattle.std.specs.Global.{Vec}
use Rattle.resp_args.specs.Args.{Args}
use Rattle.resp_value.specs.declared.value.Value.{Value}
use Rattle.resp_errors.specs.declared.redis_error.RedisError.{RedisError}
use Rattle.resp_command.specs.Call.{AnswersFrom, AnswersReply, needed}
use Rattle.resp_command.specs.Command.{Command}
use Rattle.resp_command.specs.Connection.{Connection, Exchange, routes}
use Rattle.resp_command.specs.Packed.{packed}
use Rattle.resp_command.specs.Parted.{RepliedOver, multi_bytes}
use Rattle.resp_command.specs.Subscriptions.{IsUnanswered}
use Rattle.resp_command.proofs.Queries.{exchange_ok}
use Rattle.resp_cluster.specs.Cluster.{Cluster, answer_of}
use Rattle.resp_cluster.specs.Gathered.{FollowedEach, Gathered, SentGroup, of_node, request_of}
use Rattle.resp_cluster.specs.Links.{Links, SendsTo}
use Rattle.resp_cluster.specs.Routed.{nowhere, onwards, at_once, on_the_way}
use Rattle.resp_cluster.specs.Routing.{RepliedTo, in_parts}
use Rattle.resp_cluster.specs.Spread.{AreDestinations, FollowsReply, SendsGroup, SpreadCall, went, stopped, called, unreached}
use Rattle.resp_cluster.specs.declared.links.Sent.{Sent}
use Rattle.resp_cluster.specs.declared.links.Sent.TheVariants.{Answered}
use Rattle.resp_cluster.specs.declared.node.NodeAddr.{NodeAddr}
use Rattle.resp_cluster.proofs.InGroups.{InPlace, sent_among}
use Rattle.resp_cluster.proofs.OverLinks.{Carries, answered_then, by_sends, reached_works}
use Rattle.resp_cluster.proofs.Spreading.{awaited_is}

map_append : {A B : Type 0} (f : A → B) (xs : List A) (x : A) (ys : List A) → map f (xs ++ x ∷ ys) ≡ map f xs ++ f x ∷ map f ys
map_append f [] x ys = refl
map_append f (y ∷ xs) x ys = ap (λ l. f y ∷ l) (map_append f xs x ys)

as_long : {A B : Type 0} (f : A → B) (xs : List A) → length (map f xs) ≡ length xs
as_long f [] = refl
as_long f (x ∷ xs) = ap suc (as_long f xs)

-- a list in which something stands at a place has items
some_there : {A : Type 0} (xs before : List A) (x : A) (after : List A) → xs ≡ before ++ x ∷ after → xs ≢ []
some_there xs [] x after is none = let e : x ∷ after ≡ [] = sym is ∙ none in cc
some_there xs (y ∷ before) x after is none = let e : y ∷ (before ++ x ∷ after) ≡ [] = sym is ∙ none in cc

-- what stands at a place, by the other words for it
index_there : {A : Type 0} (xs : List A) (i : ℕ) (x d : A) → slice_get xs i ≡ Some x → slice_index_or xs i d ≡ x
index_there [] i x d at = cc
index_there (y ∷ xs) zero x d at = cc
index_there (y ∷ xs) (suc i) x d at = index_there xs i x d at

all_there : {A : Type 0} (P : A → Type 0) (xs : List A) → All P xs → (i : ℕ) (x : A) → slice_get xs i ≡ Some x → P x
all_there P xs all i x at = subst P (index_there xs i x x at) (all i x (slice_get_within xs i x at))

zip_long : {A B : Type 0} (R : A → B → Type 0) (xs : List A) (ys : List B) → AllZip R xs ys → length ys ≡ length xs
zip_long R [] [] all = refl
zip_long R [] (y ∷ ys) all = absurd all
zip_long R (x ∷ xs) [] all = absurd all
zip_long R (x ∷ xs) (y ∷ ys) all = ap suc (zip_long R xs ys all.1)

abbrev pub answer_of_reply : Value → Result Value RedisError
answer_of_reply v = Ok v

-- the reply to a command is this
abbrev pub OneReply : Value → List Value → Type 0
OneReply v = AnswersReply (λ reply. answer_of_reply v ≡ Ok reply)

-- a command whose one reply is waited for, and comes
pub record IsAwaited (c : Command) : Type 0 where
  pub some : c.args ≢ []
  pub answered : IsUnanswered c → ⊥
  pub waits : c.no_response ≡ false

module _ {L : Type 0} (of_link : L → Connection) (unrouted : (link : L) → (of_link link).policy ≢ routes) where
  abbrev args_of : Command → Args
  args_of c = c.args

  -- ---- by the request of a node

  -- of the replies to a request over a link that works, one stands in the place of its command
  one_of_group : (old new : Connection) (group : List Command) (given : Vec Value) (c : Command) (reply : Value)
      → old.broken ≡ false → InPlace group given.items c reply
      → Exchange {A = Vec Value} old new (request_of group) (length group) (Ok given) (AnswersFrom (λ vs. vs.items) 0 (Ok given))
      → RepliedOver c.args reply
  one_of_group old new group given c reply works place h =
      let args : map args_of group ≡ map args_of place.before ++ c.args ∷ map args_of place.after
      = ap (map args_of) place.whole ∙ map_append args_of place.before c place.after in
      let long : length group ≡ length (map args_of place.before ++ c.args ∷ map args_of place.after)
      = sym (as_long args_of group) ∙ ap length args in
      let turned = exchange_ok {A = Vec Value} {B = Value} new (request_of group) (length group) (AnswersFrom (λ vs. vs.items) 0 (Ok given))
      (λ replies. slice_get replies (length (map args_of place.before)) ≡ Some reply) old given (Ok reply)
      (λ replies len all. rw (as_long args_of place.before) (ap (λ l. slice_get l (length place.before)) (sym all) ∙ place.there)) h in
      record {
        before = map args_of place.before;
        after = map args_of place.after;
        link = old;
        new = new;
        works = works;
        exchange = subst (λ q. Exchange old new q (length (map args_of place.before ++ c.args ∷ map args_of place.after)) (Ok reply)
            (λ replies. slice_get replies (length (map args_of place.before)) ≡ Some reply)) (ap (flat_map packed) args)
            (subst (λ n. Exchange old new (request_of group) n (Ok reply)
            (λ replies. slice_get replies (length (map args_of place.before)) ≡ Some reply)) long turned);
      }

  by_group : (old new : Cluster L) (node : NodeAddr) (group : List Command) (given : Vec Value) (c : Command) (reply : Value)
      → InPlace group given.items c reply
      → SendsGroup of_link old new node (request_of group) (length group) (Ok given) → RepliedOver c.args reply
  by_group old new node group given c reply place (unreached e ls reaches new_is r_is) = absurd (let h = r_is in cc)
  by_group old new node group given c reply place (called reached ls reaches uses new_is) =
      let works = reached_works of_link node old.links reached reaches uses.node uses.before uses.is_last in
      one_of_group (of_link uses.before) (of_link uses.after) group given c reply works place
      ((uses.calls.when_working works (unrouted uses.before)).otherwise (λ k. k) (λ k. k))

  by_sent_group : (old new : Cluster L) (node : NodeAddr) (group : List Command) (replies : List Value) (c : Command) (reply : Value)
      → InPlace group replies c reply → SentGroup (SendsGroup of_link) group old node replies new → RepliedOver c.args reply
  by_sent_group old new node group replies c reply place h =
      let given = h.some (some_there group place.before c place.after place.whole) in
      by_group old new node group given.0 c reply
      (subst (λ vs. InPlace group vs c reply) (sym given.1.0) place) given.1.1

  -- ---- by a send of its own

  one_alone : (c : Command) (v : Value) (links : Links L) → IsAwaited c
      → Carries of_link unrouted c v links → RepliedOver c.args v
  one_alone c v links awaited h =
      let exchange = h.asks.otherwise awaited.some awaited.answered in
      let one : needed c ≡ 1 = rw awaited.waits refl in
      record {
        before = [];
        after = [];
        link = h.before;
        new = of_link h.after;
        works = h.works;
        exchange = subst (λ q. Exchange h.before (of_link h.after) q 1 (Ok v) (λ replies. slice_get replies 0 ≡ Some v))
            (sym (append-nil (packed c.args)))
            (subst (λ n. Exchange h.before (of_link h.after) (packed c.args) n (Ok v) (λ replies. slice_get replies 0 ≡ Some v)) one
            (exchange_ok {A = Value} {B = Value} (of_link h.after) (packed c.args) (needed c)
            (OneReply v) (λ replies. slice_get replies 0 ≡ Some v) h.before v (Ok v)
            (λ replies len is. there replies (len ∙ one) is) exchange));
      }
    where
      there : (replies : List Value) → length replies ≡ 1 → OneReply v replies
          → slice_get replies 0 ≡ Some v
      there [] len is = absurd (omega (arith, len))
      there (reply ∷ []) len is = let e : v ≡ reply = cc in ap Some (sym e)
      there (reply ∷ next ∷ more) len is = absurd is

  by_send : (c : Command) (v : Value) (old new : Links L) (node : NodeAddr) (asking : Bool)
      (sent : Sent) → IsAwaited c → Ok v ≡ answer_of (Ok sent) → SendsTo of_link c old new node asking sent
      → RepliedOver c.args v
  by_send c v old new node asking sent awaited is sends =
      let e : Ok sent ≡ Ok (Answered (Ok v)) = answered_then of_link unrouted c v (Ok sent) is in
      let sent_is : sent ≡ Answered (Ok v) = cc in
      one_alone c v new awaited (by_sends of_link unrouted c v old new node asking sent sent_is sends)

  by_reply : (c : Command) (v reply : Value) (sent : Sent) → sent ≡ Answered (Ok reply) → Ok v ≡ answer_of (Ok sent)
      → RepliedOver c.args reply → RepliedOver c.args v
  by_reply c v reply sent sent_is is h =
      let e : Ok v ≡ Ok reply = is ∙ ap (λ s. answer_of (Ok s)) sent_is in
      let same : v ≡ reply = cc in subst (RepliedOver c.args) (sym same) h

  -- the answer to a command is its reply, or that to the command where it went on
  followed : (old new : Cluster L) (node : NodeAddr) (c : Command) (reply v : Value) → IsAwaited c → RepliedOver c.args reply
      → FollowsReply of_link old new node c reply (Ok v) → RepliedOver c.args v
  followed old new node c reply v is_awaited replied (went ls map sent (nowhere next learns stops same is) new_is r_is) =
      by_reply c v reply sent is r_is replied
  followed old new node c reply v is_awaited replied (went ls map sent (onwards to learnt learns some f) new_is r_is) =
      by_send c v f.last.nodes ls f.last.to.0 f.last.to.1 sent is_awaited r_is
      (subst (λ k. SendsTo of_link k f.last.nodes ls f.last.to.0 f.last.to.1 sent) (awaited_is c is_awaited.waits) f.sent)
  followed old new node c reply v is_awaited replied (stopped ls map sent (at_once same same_map is) new_is r_is) =
      by_reply c v reply sent is r_is replied
  followed old new node c reply v is_awaited replied (stopped ls map sent (on_the_way to learnt learns some f) new_is r_is) =
      by_send c v f.last.nodes ls f.last.to.0 f.last.to.1 sent is_awaited r_is
      (subst (λ k. SendsTo of_link k f.last.nodes ls f.last.to.0 f.last.to.1 sent) (awaited_is c is_awaited.waits) f.sent)

  -- ---- all of them

  each_followed : (nodes : List NodeAddr) (old : Cluster L) (targets : List ℕ) (commands : List Command)
      (replies answers : List Value) (new : Cluster L)
      → FollowedEach (FollowsReply of_link) nodes old targets commands replies answers new
      → ((i : ℕ) (target : ℕ) (c : Command) (reply : Value) (node : NodeAddr) → slice_get targets i ≡ Some target
      → slice_get nodes target ≡ Some node → slice_get commands i ≡ Some c → slice_get replies i ≡ Some reply
      → IsAwaited c × RepliedOver c.args reply)
      → AllZip RepliedOver (map args_of commands) answers
  each_followed nodes old (target ∷ targets) (c ∷ commands) (reply ∷ replies) (answer ∷ answers) new h here =
      let first = here 0 target c reply h.0 refl h.1.0 refl refl in (
        followed old h.1.1 h.0 c reply answer first.0 first.1 h.1.2.0,
        each_followed nodes h.1.1 targets commands replies answers new h.1.2.1
            (λ i t c' r n at there is_c is_r. here (suc i) t c' r n at there is_c is_r),
      )
  each_followed nodes old [] [] [] [] new h here = tt
  each_followed nodes old [] [] [] (answer ∷ answers) new h here = elim h [ ]
  each_followed nodes old [] [] (reply ∷ replies) answers new h here = elim h [ ]
  each_followed nodes old [] (c ∷ commands) replies answers new h here = elim h [ ]
  each_followed nodes old (target ∷ targets) [] replies answers new h here = elim h [ ]
  each_followed nodes old (target ∷ targets) (c ∷ commands) [] answers new h here = elim h [ ]
  each_followed nodes old (target ∷ targets) (c ∷ commands) (reply ∷ replies) [] new h here = elim h [ ]

  module _ (commands : List Command) (ready gathered : Cluster L) (nodes : List NodeAddr) (targets : List ℕ)
      (replies : List Value) (are : AreDestinations ready commands nodes targets)
      (sent : Gathered (SendsGroup of_link) commands targets nodes ready replies gathered)
      (plain : All (λ (c : Command). c.no_response ≡ false) commands) where
    replied_here : (i : ℕ) (target : ℕ) (c : Command) (reply : Value) (node : NodeAddr) → slice_get targets i ≡ Some target
        → slice_get nodes target ≡ Some node → slice_get commands i ≡ Some c → slice_get replies i ≡ Some reply
        → IsAwaited c × RepliedOver c.args reply
    replied_here i target c reply node at there is_c is_r =
        let to = are.each i c node is_c (ap (λ t. slice_get nodes t) (index_there targets i target 0 at) ∙ there) in
        let within : target < length nodes = all_there (λ t. t < length nodes) targets are.known i target at in
        let among = sent_among (SendsGroup of_link) commands targets nodes ready gathered replies sent i target c reply at within is_c is_r in (
          record { some = to.goes.some; answered = to.goes.answered; waits = all_there (λ (x : Command). x.no_response ≡ false) commands plain i c is_c },
          by_sent_group among.was.old among.was.new among.was.node (of_node among.place targets commands) among.given c reply
              among.in_place among.was.group,
        )

  -- the answers to commands that were spread over nodes are replies to parts of their request
  pub parts : (q : List ℕ) (commands : List Command) (old : Cluster L) (answers : List Value) (new : Cluster L)
      → request_of commands ≡ q → All (λ (c : Command). c.no_response ≡ false) commands
      → ((rest : List ℕ) → q ≢ multi_bytes ++ rest) → length commands ≢ 1
      → SpreadCall of_link commands old answers new → RepliedTo of_link q (length commands) answers new
  parts q commands old answers new is plain no_multi several h =
      let each = each_followed h.nodes h.gathered h.targets commands h.replies answers new h.followed
      (replied_here commands h.ready h.gathered h.nodes h.targets h.replies h.destinations h.sent plain) in
      let enough : length answers ≡ length commands = zip_long RepliedOver (map args_of commands) answers each ∙ as_long args_of commands in
      in_parts (record {
        commands = map args_of commands;
        replies = answers;
        request = sym is;
        no_transaction = no_multi;
        each = each;
        enough = enough;
        several = several;
        answer = refl;
      })

  as_many_followed : (nodes : List NodeAddr) (old : Cluster L) (targets : List ℕ) (commands : List Command)
      (replies answers : List Value) (new : Cluster L)
      → FollowedEach (FollowsReply of_link) nodes old targets commands replies answers new → length answers ≡ length commands
  as_many_followed nodes old (target ∷ targets) (c ∷ commands) (reply ∷ replies) (answer ∷ answers) new h =
      ap suc (as_many_followed nodes h.1.1 targets commands replies answers new h.1.2.1)
  as_many_followed nodes old [] [] [] [] new h = refl
  as_many_followed nodes old [] [] [] (answer ∷ answers) new h = elim h [ ]
  as_many_followed nodes old [] [] (reply ∷ replies) answers new h = elim h [ ]
  as_many_followed nodes old [] (c ∷ commands) replies answers new h = elim h [ ]
  as_many_followed nodes old (target ∷ targets) [] replies answers new h = elim h [ ]
  as_many_followed nodes old (target ∷ targets) (c ∷ commands) [] answers new h = elim h [ ]
  as_many_followed nodes old (target ∷ targets) (c ∷ commands) (reply ∷ replies) [] new h = elim h [ ]

  -- how many there are
  pub as_many : (commands : List Command) (old : Cluster L) (answers : List Value) (new : Cluster L)
      → SpreadCall of_link commands old answers new → length answers ≡ length commands
  as_many commands old answers new h =
      as_many_followed h.nodes h.gathered h.targets commands h.replies answers new h.followed

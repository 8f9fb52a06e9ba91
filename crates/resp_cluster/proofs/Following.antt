-- Commands that go on from their replies, one after the other.
use Rattle.std.proofs.Common.{◌≡◌, ℕ, ◌+◌, ◌<◌, List, [], ◌∷◌, ◌++◌, length, drop, get_or, refl, inl, inr, append_assoc, append-nil, arith}
use Rattle.std.proofs.Common.{Result, Ok, Err}
use Rattle.std.proofs.lemmas.List.{drop_more, drop_all}
use Rattle.resp_value.specs.declared.value.Value.{Value}
use Rattle.resp_errors.specs.declared.redis_error.RedisError.{RedisError}
use Rattle.resp_errors.specs.declared.redis_error.RedisError.TheVariants.{OutOfMemory}
use Rattle.resp_command.specs.Command.{Command}
use Rattle.resp_cluster.proofs.Gathers.{node_at}
use Rattle.resp_cluster.specs.Gathered.{FollowedEach, StopsAt}
use Rattle.resp_cluster.specs.declared.node.NodeAddr.{NodeAddr}

module _ {S : Type 0} (follows : S → S → NodeAddr → Command → Value → Result Value RedisError → Type 0) (nodes : List NodeAddr) (old : S)
    (targets : List ℕ) (commands : List Command) (replies : List Value) where
  -- the first commands went on, and these replies are left
  pub record FollowedSoFar (answers left : List Value) (place : ℕ) (now : S) : Type 0 where
    pub long : length left + place ≡ length commands
    pub same : length targets ≡ length commands
    pub onwards : (more : List Value) (new : S) → FollowedEach follows nodes now (drop place targets) (drop place commands) left more new
        → FollowedEach follows nodes old targets commands replies (answers ++ more) new
    pub stops : (e : RedisError) (new : S) → StopsAt follows nodes now (drop place targets) (drop place commands) left e new
        → StopsAt follows nodes old targets commands replies e new

  pub following_starts : length targets ≡ length commands → length replies ≡ length commands → FollowedSoFar [] replies 0 old
  following_starts each same = record { long = omega arith; same = each; onwards = λ more new h. h; stops = λ e new h. h }

  pub one_follows : (answers left : List Value) (place : ℕ) (now : S) (reply : Value) (node : NodeAddr) (command : Command) (answer : Value) (new : S)
      → FollowedSoFar answers (reply ∷ left) place now → get_or targets place 0 < length nodes → node ≡ get_or nodes (get_or targets place 0) node → command ≡ get_or commands place command
      → follows now new node command reply (Ok answer) → FollowedSoFar (answers ++ answer ∷ []) left (place + 1) new
  one_follows answers left place now reply node command answer new h known which at followed = record {
    long = let long = h.long in omega arith;
    same = h.same;
    onwards = λ more end rest.
        let long = h.long in
        let same = h.same in
        rw (append_assoc answers (answer ∷ []) more) (h.onwards (answer ∷ more) end
        (rw (drop_more targets place 0 (omega arith), drop_more commands place command (omega arith), ← at) (node, (node_at nodes (get_or targets place 0) _ node refl known which, new, (followed, rest)))));
    stops = λ e end rest.
        let long = h.long in
        let same = h.same in
        h.stops e end
        (rw (drop_more targets place 0 (omega arith), drop_more commands place command (omega arith), ← at) (inr (node, (node_at nodes (get_or targets place 0) _ node refl known which, inr (new, (answer, (followed, rest)))))));
  }

  -- the next command is answered with an error
  pub one_stops : (answers left' left : List Value) (count place : ℕ) (now : S) (reply : Value) (node : NodeAddr)
      (command : Command) (e : RedisError) (new : S) → FollowedSoFar answers left' count now → left' ≡ reply ∷ left → place ≡ count
      → get_or targets place 0 < length nodes → node ≡ get_or nodes (get_or targets place 0) node → command ≡ get_or commands place command
      → follows now new node command reply (Err e) → StopsAt follows nodes old targets commands replies e new
  one_stops answers left' left count place now reply node command e new h took at known which is followed =
      let h' : FollowedSoFar answers (reply ∷ left) place now = rw (at, ← took) h in
      let long = h'.long in
      let same = h'.same in
      h'.stops e new
      (rw (drop_more targets place 0 (omega arith), drop_more commands place command (omega arith), ← is) (inr (node, (node_at nodes (get_or targets place 0) _ node refl known which, inl followed))))

  -- memory runs out before the next one goes on
  pub none_left : (answers left : List Value) (place : ℕ) (now : S) (e : RedisError) → FollowedSoFar answers left place now
      → e ≡ OutOfMemory → StopsAt follows nodes old targets commands replies e now
  none_left answers left place now e h is = h.stops e now (at_once (drop place targets) (drop place commands) left)
    where
      at_once : (ts : List ℕ) (cs : List Command) (rs : List Value) → StopsAt follows nodes now ts cs rs e now
      at_once (t ∷ ts) (c ∷ cs) (r ∷ rs) = inl (is, refl)
      at_once (t ∷ ts) (c ∷ cs) [] = (is, refl)
      at_once (t ∷ ts) [] rs = (is, refl)
      at_once [] cs rs = (is, refl)

  pub next_follows : (answers answers' left left' : List Value) (count count' place : ℕ) (now : S) (reply : Value) (node : NodeAddr)
      (command : Command) (answer : Value) (new : S) → FollowedSoFar answers left' count now → left' ≡ reply ∷ left → place ≡ count
      → count' ≡ count + 1 → answers' ≡ answers ++ answer ∷ [] → get_or targets place 0 < length nodes
      → node ≡ get_or nodes (get_or targets place 0) node → command ≡ get_or commands place command
      → follows now new node command reply (Ok answer) → FollowedSoFar answers' left count' new
  next_follows answers answers' left left' count count' place now reply node command answer new h took at counted pushed known which
      is followed =
      rw (counted, pushed, ← at) (one_follows answers left place now reply node command answer new (rw (at, ← took) h) known which is followed)

  pub all_followed : (answers left : List Value) (place : ℕ) (now : S) → FollowedSoFar answers left place now → length left ≡ 0
      → FollowedEach follows nodes old targets commands replies answers now
  all_followed answers [] place now h none =
      let long = h.long in
      rw (← append-nil answers) (h.onwards [] now (rw (drop_all place targets (let same = h.same in omega arith), drop_all place commands (omega arith)) refl))
  all_followed answers (reply ∷ left) place now h none = absurd (omega arith)

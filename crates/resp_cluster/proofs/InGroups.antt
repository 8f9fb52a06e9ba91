-- The reply to one of several commands stands in its place among those of the command's node.
use Rattle.std.proofs.Common.{◌≡◌, ℕ, zero, suc, ◌+◌, ◌<◌, ◌==◌, Bool, true, false, List, [], ◌∷◌, ◌++◌, length}
use Rattle.std.proofs.Common.{sym, ap, arith, Result, Some, slice_get, if◌then◌else◌, eq-eqb, subst}
use Rattle.std.specs.Global.{Vec}
use Rattle.resp_value.specs.declared.value.Value.{Value}
use Rattle.resp_errors.specs.declared.redis_error.RedisError.{RedisError}
use Rattle.resp_command.specs.Command.{Command}
use Rattle.resp_cluster.specs.Gathered.{Gathered, SentEach, SentGroup, given_by, of_node}
use Rattle.resp_cluster.specs.declared.node.NodeAddr.{NodeAddr}

-- y stands in the place of x
pub record InPlace {A B : Type 0} (xs : List A) (ys : List B) (x : A) (y : B) : Type 0 where
  pub before : List A
  pub after : List A
  pub whole : xs ≡ before ++ x ∷ after
  pub there : slice_get ys (length before) ≡ Some y

module _ {A B : Type 0} (node : ℕ) where
  pushed : (here : Bool) (x x' : A) (y y' : B) (xs : List A) (ys : List B) → InPlace xs ys x y
      → InPlace (if here then x' ∷ xs else xs) (if here then y' ∷ ys else ys) x y
  pushed true x x' y y' xs ys h =
      record { before = x' ∷ h.before; after = h.after; whole = ap (λ l. x' ∷ l) h.whole; there = h.there }
  pushed false x x' y y' xs ys h = h

  first : (here : Bool) → here ≡ true → (x x' : A) (y y' : B) (xs : List A) (ys : List B) → Some x' ≡ Some x → Some y' ≡ Some y
      → InPlace (if here then x' ∷ xs else xs) (if here then y' ∷ ys else ys) x y
  first true is x x' y y' xs ys same also =
      let e : x' ≡ x = cc in
      record { before = []; after = xs; whole = ap (λ z. z ∷ xs) e; there = also }
  first false is x x' y y' xs ys same also = cc

  -- so does what stands in the place of a command among what stands in the places of all
  pub in_group : (targets : List ℕ) (xs : List A) (ys : List B) (i : ℕ) (x : A) (y : B) → slice_get targets i ≡ Some node
      → slice_get xs i ≡ Some x → slice_get ys i ≡ Some y → InPlace (of_node node targets xs) (of_node node targets ys) x y
  in_group [] xs ys i x y t p q = cc
  in_group (target ∷ targets) [] ys i x y t p q = cc
  in_group (target ∷ targets) (x' ∷ xs) [] i x y t p q = cc
  in_group (target ∷ targets) (x' ∷ xs) (y' ∷ ys) zero x y t p q =
      first (target == node) (eq-eqb target node (let e : target ≡ node = cc in e)) x x' y y' _ _ p q
  in_group (target ∷ targets) (x' ∷ xs) (y' ∷ ys) (suc i) x y t p q =
      pushed (target == node) x x' y y' _ _ (in_group targets xs ys i x y t p q)

-- ---- what a node was sent

module _ {S : Type 0} (sends : S → S → NodeAddr → List ℕ → ℕ → Result (Vec Value) RedisError → Type 0)
    (commands : List Command) (targets : List ℕ) where
  -- the node at a place was sent its commands
  pub record WasSent (place : ℕ) (replies : List Value) : Type 0 where
    pub old : S
    pub new : S
    pub node : NodeAddr
    pub group : SentGroup sends (of_node place targets commands) old node replies new

  pub was_sent : (from : ℕ) (nodes : List NodeAddr) (old : S) (groups : List (List Value)) (new : S)
      → SentEach sends commands targets from nodes old groups new → (k : ℕ) → k < length groups
      → WasSent (from + k) (given_by groups k)
  was_sent from nodes old [] new h k within = absurd (omega (arith, within))
  was_sent from [] old (replies ∷ more) new h k within = absurd h
  was_sent from (node ∷ nodes) old (replies ∷ more) new h zero within =
      let e : from + 0 ≡ from = omega arith in
      subst (λ n. WasSent n replies) (sym e) (record { old = old; new = h.0; node = node; group = h.1.0 })
  was_sent from (node ∷ nodes) old (replies ∷ more) new h (suc k) within =
      let e : from + suc k ≡ (from + 1) + k = omega arith in
      subst (λ n. WasSent n (given_by more k)) (sym e) (was_sent (from + 1) nodes h.0 more new h.1.1 k (omega arith))

  -- the node of a command was sent it among others, and the reply stands in its place
  pub record SentAmong (c : Command) (reply : Value) : Type 0 where
    pub place : ℕ
    pub given : List Value
    pub was : WasSent place given
    pub in_place : InPlace (of_node place targets commands) given c reply

  pub sent_among : (nodes : List NodeAddr) (old new : S) (replies : List Value)
      → Gathered sends commands targets nodes old replies new → (i : ℕ) (target : ℕ) (c : Command) (reply : Value)
      → slice_get targets i ≡ Some target → target < length nodes → slice_get commands i ≡ Some c
      → slice_get replies i ≡ Some reply → SentAmong c reply
  sent_among nodes old new replies h i target c reply at within is_command is_reply =
      let fits : target < length h.groups = rw h.each within in
      record {
        place = target;
        given = given_by h.groups target;
        was = let e : 0 + target ≡ target = omega arith in
            subst (λ n. WasSent n (given_by h.groups target)) e (was_sent 0 nodes old h.groups new h.sent target fits);
        in_place = subst (λ given. InPlace (of_node target targets commands) given c reply) (h.placed target fits)
            (in_group target targets commands replies i c reply at is_command is_reply);
      }

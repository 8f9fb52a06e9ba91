-- The replies of several nodes, put in the places of the commands.
use Rattle.std.proofs.Common.{◌≡◌, ℕ, zero, suc, ◌+◌, ◌<◌, ◌==◌, Bool, true, false, List, [], ◌∷◌, ◌++◌, length, take, drop, get_or}
use Rattle.std.proofs.Common.{refl, sym, ap, ◌∙◌, append_assoc, append-nil, arith, Result, Err, Some, slice_get, if◌then◌else◌}
use Rattle.std.proofs.Common.{slice_set, eqb-true, eq-eqb, ne_eqb, ◌≤◌, zero-le}
use Rattle.std.proofs.lemmas.Bool.{eqb-false}
use Rattle.std.proofs.lemmas.List.{take_more, drop_more, take_all, drop_all, get_or-set_same, get_or-set_other, length-set}
use Rattle.std.proofs.lemmas.List.{length-append}
use Rattle.std.specs.Global.{Vec}
use Rattle.resp_value.specs.declared.value.Value.{Value}
use Rattle.resp_errors.specs.declared.redis_error.RedisError.{RedisError}
use Rattle.resp_command.specs.Command.{Command}
use Rattle.resp_command.specs.Packed.{packed}
use Rattle.resp_cluster.specs.Gathered.{InPlaces, RefusedGroup, SentEach, SentGroup, by_node, given_by, of_node, request_of}
use Rattle.resp_cluster.specs.Gathering.{Enough}
use Rattle.resp_cluster.specs.declared.node.NodeAddr.{NodeAddr}

-- ---- what stands in the places of a node's commands

-- an element before, or none
before : {A : Type 0} (here : Bool) (y : A) (xs ys more : List A) → xs ≡ ys ++ more
    → (if here then y ∷ xs else xs) ≡ (if here then y ∷ ys else ys) ++ more
before true y xs ys more h = ap (λ l. y ∷ l) h
before false y xs ys more h = h

as_long : {A B : Type 0} (here : Bool) (x : A) (y : B) (xs : List A) (ys : List B) → length xs ≡ length ys
    → length (if here then x ∷ xs else xs) ≡ length (if here then y ∷ ys else ys)
as_long true x y xs ys h = ap suc h
as_long false x y xs ys h = h

no_longer : {A : Type 0} (here : Bool) (x : A) (xs : List A) (n : ℕ) → length xs ≤ n
    → length (if here then x ∷ xs else xs) ≤ suc n
no_longer true x xs n h = omega arith
no_longer false x xs n h = omega arith

module _ {A : Type 0} (node : ℕ) where
  push : (targets : List ℕ) (xs : List A) (target : ℕ) (x : A) → length targets ≡ length xs
      → of_node node (targets ++ target ∷ []) (xs ++ x ∷ []) ≡ of_node node targets xs ++ of_node node (target ∷ []) (x ∷ [])
  push [] [] target x h = refl
  push [] (y ∷ ys) target x h = absurd (omega arith)
  push (t ∷ ts) [] target x h = absurd (omega arith)
  push (t ∷ ts) (y ∷ ys) target x h = before (t == node) y _ _ _ (push ts ys target x (omega arith))

  -- one place more
  pub up_to_next : (targets : List ℕ) (xs : List A) (place : ℕ) (x : A) → length targets ≡ length xs → place < length xs
      → of_node node (take (place + 1) targets) (take (place + 1) xs)
      ≡ of_node node (take place targets) (take place xs) ++ of_node node (get_or targets place 0 ∷ []) (get_or xs place x ∷ [])
  up_to_next targets xs place x same within =
      ap (λ l. of_node node l (take (place + 1) xs)) (take_more targets place 0 (omega arith))
      ∙ ap (λ l. of_node node (take place targets ++ get_or targets place 0 ∷ []) l) (take_more xs place x within)
      ∙ push (take place targets) (take place xs) (get_or targets place 0) (get_or xs place x) (by_lengths targets xs place same)
    where
      by_lengths : (targets : List ℕ) (xs : List A) (n : ℕ) → length targets ≡ length xs → length (take n targets) ≡ length (take n xs)
      by_lengths [] [] zero h = refl
      by_lengths [] [] (suc n) h = refl
      by_lengths [] (y ∷ ys) n h = absurd (omega arith)
      by_lengths (t ∷ ts) [] n h = absurd (omega arith)
      by_lengths (t ∷ ts) (y ∷ ys) zero h = refl
      by_lengths (t ∷ ts) (y ∷ ys) (suc n) h = ap suc (by_lengths ts ys n (omega arith))

  -- as many as places
  pub as_many : {B : Type 0} (targets : List ℕ) (xs : List A) (ys : List B) → length xs ≡ length ys
      → length (of_node node targets xs) ≡ length (of_node node targets ys)
  as_many [] xs ys h = refl
  as_many (t ∷ ts) [] [] h = refl
  as_many (t ∷ ts) [] (y ∷ ys) h = absurd (omega arith)
  as_many (t ∷ ts) (x ∷ xs) [] h = absurd (omega arith)
  as_many (t ∷ ts) (x ∷ xs) (y ∷ ys) h = as_long (t == node) x y _ _ (as_many ts xs ys (omega arith))

-- the commands of a node, and the bytes that send them, with one place more
pub next_here : {A : Type 0} (node : ℕ) (targets : List ℕ) (commands : List A) (place : ℕ) (command : A) → length targets ≡ length commands
    → place < length commands → command ≡ get_or commands place command → get_or targets place 0 ≡ node
    → of_node node (take (place + 1) targets) (take (place + 1) commands)
    ≡ of_node node (take place targets) (take place commands) ++ command ∷ []
next_here node targets commands place command same within at is =
    up_to_next node targets commands place command same within
    ∙ ap (λ here. of_node node (take place targets) (take place commands) ++ (if here then get_or commands place command ∷ [] else []))
    (eq-eqb (get_or targets place 0) node is)
    ∙ ap (λ c. of_node node (take place targets) (take place commands) ++ c ∷ []) (sym at)

pub next_elsewhere : {A : Type 0} (node : ℕ) (targets : List ℕ) (commands : List A) (place : ℕ) (command : A) → length targets ≡ length commands
    → place < length commands → (get_or targets place 0 ≡ node → ⊥)
    → of_node node (take (place + 1) targets) (take (place + 1) commands) ≡ of_node node (take place targets) (take place commands)
next_elsewhere node targets commands place command same within is =
    up_to_next node targets commands place command same within
    ∙ ap (λ here. of_node node (take place targets) (take place commands) ++ (if here then get_or commands place command ∷ [] else []))
    (ne_eqb (get_or targets place 0) node is)
    ∙ append-nil (of_node node (take place targets) (take place commands))

pub request_push : (commands : List Command) (command : Command) → request_of (commands ++ command ∷ []) ≡ request_of commands ++ packed command.args
request_push [] command = append-nil (packed command.args)
request_push (c ∷ commands) command =
    ap (λ l. packed c.args ++ l) (request_push commands command) ∙ sym (append_assoc (packed c.args) (request_of commands) (packed command.args))

-- no more commands than places
pub at_most : {A : Type 0} (node : ℕ) (targets : List ℕ) (xs : List A) (place : ℕ) → length (of_node node (take place targets) (take place xs)) ≤ place
at_most node targets xs zero = zero-le
at_most node [] xs (suc n) = zero-le
at_most node (t ∷ ts) [] (suc n) = zero-le
at_most node (t ∷ ts) (x ∷ xs) (suc n) = no_longer (t == node) x _ n (at_most node ts xs n)

-- ---- replies put in their places

pub record Placing (all groups : List (List Value)) (targets : List ℕ) (place : ℕ) (replies : List Value) : Type 0 where
  pub long : length replies ≡ place
  pub same : length groups ≡ length all
  pub placed : (node : ℕ) → node < length all → of_node node (take place targets) replies ++ given_by groups node ≡ given_by all node
  pub left : (node : ℕ) → node < length all
      → length (given_by groups node) ≡ length (of_node node (drop place targets) (drop place targets))

pub placing_starts : (groups : List (List Value)) (targets : List ℕ) → Enough groups targets → Placing groups groups targets 0 []
placing_starts groups targets enough = record {
  long = refl;
  same = refl;
  placed = λ node within. refl;
  left = enough;
}

-- of the commands from a place on, the first one's node has a reply left
pub one_left : (all groups : List (List Value)) (targets : List ℕ) (place : ℕ) (replies : List Value)
    → Placing all groups targets place replies → place < length targets → get_or targets place 0 < length all
    → 0 < length (given_by groups (get_or targets place 0))
one_left all groups targets place replies p within known =
    let target = get_or targets place 0 in
    let h = p.left target known in
    let h = rw (drop_more targets place 0 within) at h in
    let same : (target == target) ≡ true = eq-eqb target target refl in
    let h = rw same at h in
    omega arith

-- the next reply of that node is put in the place
module _ (all groups : List (List Value)) (targets : List ℕ) (place : ℕ) (replies : List Value) (reply : Value)
    (rest : List Value) (p : Placing all groups targets place replies) (within : place < length targets)
    (known : get_or targets place 0 < length all) (next : given_by groups (get_or targets place 0) ≡ reply ∷ rest) where
  abbrev target : ℕ
  target = get_or targets place 0

  abbrev groups' : List (List Value)
  groups' = slice_set groups target rest

  there : given_by groups' target ≡ rest
  there = get_or-set_same groups target rest [] (omega (arith, p.same, known))

  elsewhere : (node : ℕ) → (target == node) ≡ false → given_by groups' node ≡ given_by groups node
  elsewhere node other = get_or-set_other groups target node rest [] (λ same. eqb-false target node other (sym same))

  long' : length (take place targets) ≡ length replies
  long' = let h = length-take' in let long = p.long in omega (arith, h)
    where
      length-take' : length (take place targets) ≡ place
      length-take' = length_of_take targets place within
        where
          length_of_take : (xs : List ℕ) (n : ℕ) → n < length xs → length (take n xs) ≡ n
          length_of_take xs zero h = refl
          length_of_take [] (suc n) h = absurd (omega arith)
          length_of_take (x ∷ xs) (suc n) h = ap suc (length_of_take xs n (omega arith))

  split : (node : ℕ) → of_node node (take (place + 1) targets) (replies ++ reply ∷ [])
      ≡ of_node node (take place targets) replies ++ of_node node (target ∷ []) (reply ∷ [])
  split node = ap (λ l. of_node node l (replies ++ reply ∷ [])) (take_more targets place 0 within)
      ∙ push node (take place targets) replies target reply long'

  placed' : (node : ℕ) → node < length all → of_node node (take (place + 1) targets) (replies ++ reply ∷ []) ++ given_by groups' node ≡ given_by all node
  placed' node inside = by (target == node) refl
    where
      by : (here : Bool) → (target == node) ≡ here
          → of_node node (take (place + 1) targets) (replies ++ reply ∷ []) ++ given_by groups' node ≡ given_by all node
      by true is =
          let at : target ≡ node = eqb-true target node is in
          rw (split node, is) (append_assoc (of_node node (take place targets) replies) (reply ∷ []) (given_by groups' node)
          ∙ ap (λ l. of_node node (take place targets) replies ++ (reply ∷ l)) (ap (given_by groups') (sym at) ∙ there)
          ∙ ap (λ l. of_node node (take place targets) replies ++ l) (sym next ∙ ap (given_by groups) at)
          ∙ p.placed node inside)
      by false is =
          rw (split node, is) (ap (λ l. l ++ given_by groups' node) (append-nil (of_node node (take place targets) replies))
          ∙ ap (λ l. of_node node (take place targets) replies ++ l) (elsewhere node is) ∙ p.placed node inside)

  left' : (node : ℕ) → node < length all
      → length (given_by groups' node) ≡ length (of_node node (drop (place + 1) targets) (drop (place + 1) targets))
  left' node inside = by (target == node) refl
    where
      h : length (given_by groups node) ≡ length (of_node node (target ∷ drop (place + 1) targets) (target ∷ drop (place + 1) targets))
      h = p.left node inside ∙ ap (λ l. length (of_node node l l)) (drop_more targets place 0 within)

      by : (here : Bool) → (target == node) ≡ here
          → length (given_by groups' node) ≡ length (of_node node (drop (place + 1) targets) (drop (place + 1) targets))
      by true is =
          let at : target ≡ node = eqb-true target node is in
          let k = rw is at h in
          let n = ap length (ap (given_by groups) (sym at) ∙ next) in
          ap length (ap (given_by groups') (sym at) ∙ there) ∙ (omega (arith, k, n))
      by false is = let k = rw is at h in ap length (elsewhere node is) ∙ k

  pub put : Placing all groups' targets (place + 1) (replies ++ reply ∷ [])
  put = record {
    long = rw (length-append replies (reply ∷ [])) (let long = p.long in omega arith);
    same = length-set groups target rest ∙ p.same;
    placed = placed';
    left = left';
  }

pub all_placed : (all groups : List (List Value)) (targets : List ℕ) (replies : List Value)
    → Placing all groups targets (length targets) replies → InPlaces all targets replies
all_placed all groups targets replies p node inside =
    let none : given_by groups node ≡ [] = no_more (given_by groups node) (p.left node inside ∙ ap (λ l. length (of_node node l l)) (drop_all (length targets) targets (omega arith))) in
    sym (append-nil (of_node node targets replies))
    ∙ ap (λ l. of_node node targets replies ++ l) (sym none)
    ∙ ap (λ l. of_node node l replies ++ given_by groups node) (sym (take_all (length targets) targets (omega arith)))
    ∙ p.placed node inside
  where
    no_more : (xs : List Value) → length xs ≡ 0 → xs ≡ []
    no_more [] h = refl
    no_more (x ∷ xs) h = absurd (omega arith)

-- ---- one node after another

at_place : (nodes : List NodeAddr) (place : ℕ) (d : NodeAddr) → place < length nodes → slice_get nodes place ≡ Some (get_or nodes place d)
at_place [] place d h = absurd (omega arith)
at_place (node ∷ nodes) zero d h = refl
at_place (node ∷ nodes) (suc place) d h = at_place nodes place d (omega arith)

-- the node at a place
pub node_at : (nodes : List NodeAddr) (place n : ℕ) (node : NodeAddr) → place ≡ n → place < length nodes → node ≡ get_or nodes place node
    → slice_get nodes n ≡ Some node
node_at nodes place n node same within is = rw (← same) (at_place nodes place node within ∙ ap Some (sym is))

module _ {S : Type 0} (sends : S → S → NodeAddr → List ℕ → ℕ → Result (Vec Value) RedisError → Type 0)
    (commands : List Command) (targets : List ℕ) where
  pub one_more : (first : ℕ) (nodes : List NodeAddr) (old : S) (groups : List (List Value)) (between : S) (place : ℕ)
      (node : NodeAddr) (replies : List Value) (new : S) → SentEach sends commands targets first nodes old groups between
      → place ≡ first + length groups → slice_get nodes (length groups) ≡ Some node
      → SentGroup sends (of_node place targets commands) between node replies new
      → SentEach sends commands targets first nodes old (groups ++ replies ∷ []) new
  one_more first [] old [] between place node replies new is at which h = absurd (some_none which)
    where
      some_none : {n : NodeAddr} → slice_get [] 0 ≡ Some n → ⊥
      some_none {n} e = cc
  one_more first (it ∷ nodes) old [] between place node replies new is at which h =
      let same : place ≡ first = omega arith in
      (new, (rw (is, ← same, only which) h, refl))
    where
      only : slice_get (it ∷ nodes) 0 ≡ Some node → it ≡ node
      only e = cc
  one_more first [] old (group ∷ groups) between place node replies new sent at which h = absurd sent
  one_more first (it ∷ nodes) old (group ∷ groups) between place node replies new (next, (sent, more)) at which h =
      (next, (sent, one_more (first + 1) nodes next groups between place node replies new more (omega arith) which h))

  pub stopped : (nodes : List NodeAddr) (old : S) (groups : List (List Value)) (before : S) (place : ℕ) (node : NodeAddr) (new : S)
      (e : RedisError) → SentEach sends commands targets 0 nodes old groups before → place ≡ length groups
      → slice_get nodes (length groups) ≡ Some node
      → sends before new node (request_of (of_node place targets commands)) (length (of_node place targets commands)) (Err e)
      → RefusedGroup sends commands targets nodes old new e
  stopped nodes old groups before place node new e sent at which refused =
      by_node groups before node which sent (rw (← at) refused)

  -- each gave as many as it was sent
  pub enough_of : (first : ℕ) (nodes : List NodeAddr) (old : S) (groups : List (List Value)) (new : S)
      → SentEach sends commands targets first nodes old groups new → (k : ℕ) → k < length groups
      → length (given_by groups k) ≡ length (of_node (first + k) targets commands)
  enough_of first nodes old [] new h k inside = absurd (omega arith)
  enough_of first [] old (group ∷ groups) new h k inside = absurd h
  enough_of first (node ∷ nodes) old (group ∷ groups) new (next, (sent, more)) zero inside =
      let at : first + 0 ≡ first = omega arith in
      rw at sent.counted
  enough_of first (node ∷ nodes) old (group ∷ groups) new (next, (sent, more)) (suc k) inside =
      let at : first + suc k ≡ (first + 1) + k = omega arith in
      rw at (enough_of (first + 1) nodes next groups new more k (omega arith))

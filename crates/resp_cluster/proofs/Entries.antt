-- Entries that are read one after another.
use Rattle.std.proofs.Common.{◌≡◌, ℕ, ◌+◌, ◌-◌, ◌<◌, ◌≤◌, List, [], ◌∷◌, ◌++◌, length, get_or, take, drop, Result, Ok, Err}
use Rattle.std.proofs.Common.{refl, sym, ap, ◌∙◌, arith, append_assoc}
use Rattle.std.proofs.lemmas.List.{drop_more, take_all}
use Rattle.resp_value.specs.declared.value.Value.{Value}
use Rattle.resp_cluster.specs.Replies.{chained, number_below, slots_in}
use Rattle.resp_cluster.specs.Shards.{shard_in, shards_in, slot_pairs}
use Rattle.resp_cluster.specs.declared.node.PortKind.{PortKind}
use Rattle.resp_cluster.specs.declared.node.SlotRange.{SlotRange}
use Rattle.resp_cluster.specs.declared.node.TopologyError.{TopologyError}

-- what was read, and then what is read of the rest
abbrev pub after : {A : Type 0} → List A → Result (List A) TopologyError → Result (List A) TopologyError
after front (Ok rest) = Ok (front ++ rest)
after front (Err e) = Err e

after_one : {A : Type 0} (front : List A) (x : A) (rest : Result (List A) TopologyError)
    → after front (chained rest (λ more. Ok (x ∷ more))) ≡ after (front ++ (x ∷ [])) rest
after_one front x (Ok more) = ap Ok (sym (append_assoc front (x ∷ []) more))
after_one front x (Err e) = refl

after_some : (old new : List SlotRange) (wanted rest : Result (List SlotRange) TopologyError)
    → chained wanted (λ ranges. Ok (old ++ ranges)) ≡ Ok new
    → after old (chained wanted (λ ranges. chained rest (λ more. Ok (ranges ++ more)))) ≡ after new rest
after_some old new (Ok ranges) (Ok more) same =
    ap Ok (sym (append_assoc old ranges more)) ∙ ap (λ r. chained r (λ front. Ok (front ++ more))) same
after_some old new (Ok ranges) (Err e) same = refl
after_some old new (Err e) rest same = cc

-- two slots more
pub next_pair : (whole : Result (List (ℕ × ℕ)) TopologyError) (xs : List Value) (x y : Value) (pairs new : List (ℕ × ℕ))
    (p : ℕ × ℕ) → 2 ≤ length xs → x ≡ get_or xs 0 x → y ≡ get_or xs 1 y
    → Ok p ≡ slots_in (number_below 16384 x) (number_below 16384 y) → new ≡ pairs ++ (p ∷ [])
    → whole ≡ after pairs (slot_pairs xs) → whole ≡ after new (slot_pairs (take (length xs - 2) (drop 2 xs)))
next_pair whole [] x y pairs new p two first last read pushed held = absurd (omega arith)
next_pair whole (a ∷ []) x y pairs new p two first last read pushed held = absurd (omega arith)
next_pair whole (a ∷ b ∷ rest) x y pairs new p two first last read pushed held =
    let all : take (length (a ∷ b ∷ rest) - 2) rest ≡ rest = take_all _ rest (omega arith) in
    let slots : slots_in (number_below 16384 a) (number_below 16384 b) ≡ Ok p
    = ap (λ v. slots_in (number_below 16384 v) (number_below 16384 b)) (sym first)
    ∙ ap (λ v. slots_in (number_below 16384 x) (number_below 16384 v)) (sym last) ∙ sym read in
    held ∙ ap (λ r. after pairs (chained r (λ slots. chained (slot_pairs rest) (λ more. Ok (slots ∷ more))))) slots
    ∙ after_one pairs p (slot_pairs rest)
    ∙ ap (λ front. after front (slot_pairs rest)) (sym pushed) ∙ ap (λ r. after new (slot_pairs r)) (sym all)

-- a shard more
pub next_shard : (asked : List ℕ) (kind : PortKind) (shards : List Value) (i : ℕ) (shard : Value) (old new : List SlotRange)
    → i < length shards → shard ≡ get_or shards i shard
    → chained (shard_in asked kind shard) (λ ranges. Ok (old ++ ranges)) ≡ Ok new
    → shards_in asked kind shards ≡ after old (shards_in asked kind (drop i shards))
    → shards_in asked kind shards ≡ after new (shards_in asked kind (drop (i + 1) shards))
next_shard asked kind shards i shard old new lt is added held =
    let here : drop i shards ≡ shard ∷ drop (i + 1) shards
    = drop_more shards i shard lt ∙ ap (λ s. s ∷ drop (i + 1) shards) (sym is) in
    held ∙ ap (λ rest. after old (shards_in asked kind rest)) here
    ∙ after_some old new (shard_in asked kind shard) (shards_in asked kind (drop (i + 1) shards)) added

-- Frames that are read one after another, and the replies and pushes among them.
use Rattle.std.proofs.Common.{◌≡◌, ℕ, ◌+◌, None, Some, is_none, is_some, List, [], ◌∷◌, ◌++◌, length, filter}
use Rattle.std.proofs.Common.{filter_map, refl, sym}
use Rattle.std.proofs.Common.{ap, ◌∙◌, append_assoc, append-nil, length-append, arith, rules}
use Rattle.std.proofs.lemmas.List.{map-append}
use Rattle.std.proofs.lemmas.List.Elements.{filter-append, filter_map-append}
use Rattle.resp_value.specs.declared.value.Value.{Value, Push, the_lemmas}
use Rattle.resp_value.specs.declared.names.PushKind.{PushKind}
use Rattle.resp_parse.specs.declared.limits.Limits.{Limits}
use Rattle.resp_parse.specs.Limited.{HasValue}
use Rattle.resp_command.specs.Taken.{as_push, Frame, bytes_of, AreFrames, values_of, replies_in, pushes_in, push_bytes}
use Rattle.resp_command.specs.Taken.{PrefixReads, EndsAtReply}

-- a push is one
pub as_push-Push : (kind : PushKind) (payload : List Value)
    → as_push (Push kind payload) ≡ Some (record { kind = kind; payload = payload })
as_push-Push kind payload = search (rules, the_lemmas)

bytes_of-append : (fs gs : List Frame) → bytes_of (fs ++ gs) ≡ bytes_of fs ++ bytes_of gs
bytes_of-append [] gs = refl
bytes_of-append (f ∷ fs) gs = ap (λ z. f.bytes ++ z) (bytes_of-append fs gs)
    ∙ sym (append_assoc f.bytes (bytes_of fs) (bytes_of gs))

are_frames-append : (l : Limits) (fs gs : List Frame) → AreFrames l fs → AreFrames l gs → AreFrames l (fs ++ gs)
are_frames-append l [] gs h k = k
are_frames-append l (f ∷ fs) gs h k = (h.0, are_frames-append l fs gs h.1 k)

pub reads_nothing : (l : Limits) (b : List ℕ) → PrefixReads l b [] b
reads_nothing l b = record { whole = refl; frames_are = tt }

-- the frame of a value at the start
abbrev pub frame_of : {l : Limits} {b rest : List ℕ} {v : Value} → HasValue l b v rest → Frame
frame_of {v = v} h = record { bytes = h.prefix; value = v }

pub reads_one : (l : Limits) (b rest : List ℕ) (v : Value) → (h : HasValue l b v rest)
    → PrefixReads l b (frame_of h ∷ []) rest
reads_one l b rest v h = record {
  whole = h.whole ∙ ap (λ z. z ++ rest) (sym (append-nil h.prefix));
  frames_are = (h.well_formed, tt);
}

-- the value of a frame at the start
pub value_first : (l : Limits) (b rest : List ℕ) (f : Frame) (fs : List Frame) → PrefixReads l b (f ∷ fs) rest
    → HasValue l b f.value (bytes_of fs ++ rest)
value_first l b rest f fs h = record {
  prefix = f.bytes;
  whole = h.whole ∙ append_assoc f.bytes (bytes_of fs) rest;
  well_formed = h.frames_are.0;
}

pub reads_both : (l : Limits) (b mid rest : List ℕ) (fs gs : List Frame) → PrefixReads l b fs mid
    → PrefixReads l mid gs rest → PrefixReads l b (fs ++ gs) rest
reads_both l b mid rest fs gs h k = record {
  whole = h.whole ∙ ap (λ s. bytes_of fs ++ s) k.whole ∙ sym (append_assoc (bytes_of fs) (bytes_of gs) rest)
      ∙ ap (λ s. s ++ rest) (sym (bytes_of-append fs gs));
  frames_are = are_frames-append l fs gs h.frames_are k.frames_are;
}

values_of-append : (fs gs : List Frame) → values_of (fs ++ gs) ≡ values_of fs ++ values_of gs
values_of-append fs gs = map-append (λ f. f.value) fs gs

pub replies_in-append : (fs gs : List Frame) → replies_in (fs ++ gs) ≡ replies_in fs ++ replies_in gs
replies_in-append fs gs = ap (filter (λ v. is_none (as_push v))) (values_of-append fs gs)
    ∙ filter-append (λ v. is_none (as_push v)) (values_of fs) (values_of gs)

pub pushes_in-append : (fs gs : List Frame) → pushes_in (fs ++ gs) ≡ pushes_in fs ++ pushes_in gs
pushes_in-append fs gs = ap (filter_map as_push) (values_of-append fs gs)
    ∙ filter_map-append as_push (values_of fs) (values_of gs)

pub push_bytes-append : (fs gs : List Frame) → push_bytes (fs ++ gs) ≡ push_bytes fs + push_bytes gs
push_bytes-append fs gs =
    ap (λ z. length (bytes_of z)) (filter-append (λ f. is_some (as_push f.value)) fs gs)
    ∙ ap length (bytes_of-append (filter (λ f. is_some (as_push f.value)) fs)
    (filter (λ f. is_some (as_push f.value)) gs))
    ∙ length-append (bytes_of (filter (λ f. is_some (as_push f.value)) fs))
    (bytes_of (filter (λ f. is_some (as_push f.value)) gs))

-- as many replies as both hold
pub count-append : (fs gs : List Frame) → length (replies_in (fs ++ gs)) ≡ length (replies_in fs) + length
    (replies_in gs)
count-append fs gs = ap length (replies_in-append fs gs) ∙ length-append (replies_in fs) (replies_in gs)

-- where a beginning of two lists joined ends: within the first, or in the second
data Ending (vs ws before after : List Frame) (v : Frame) : Type 0 where
  within : (more : List Frame) → vs ≡ before ++ v ∷ more → Ending vs ws before after v
  beyond : (more : List Frame) → before ≡ vs ++ more → ws ≡ more ++ v ∷ after → Ending vs ws before after v

ending : (vs ws before after : List Frame) (v : Frame) → vs ++ ws ≡ before ++ v ∷ after → Ending vs ws before after v
ending [] ws before after v e = beyond before refl e
ending (x ∷ vs) ws [] after v e = within vs (let k : x ≡ v = cc in ap (λ y. y ∷ vs) k)
ending (x ∷ vs) ws (y ∷ before) after v e =
    let same : x ≡ y = cc in
    elim (ending vs ws before after v (cc)) [
      | within more k ↦ within more (ap (λ l. x ∷ l) k ∙ ap (λ z. z ∷ (before ++ v ∷ more)) same)
      | beyond more k l ↦ beyond more (ap (λ z. z ∷ before) (sym same) ∙ ap (λ l. x ∷ l) k) l
    ]

pub ends_at_nothing : EndsAtReply 0 []
ends_at_nothing = record { enough = refl; least = λ before after v e. absurd (none before after v e) }
  where
    none : (before after : List Frame) (v : Frame) → [] ≡ before ++ v ∷ after → ⊥
    none [] after v e = cc
    none (x ∷ before) after v e = cc

pub ends_after_pushes : (vs : List Frame) (v : Frame) → replies_in vs ≡ [] → as_push v.value ≡ None
    → EndsAtReply 1 (vs ++ v ∷ [])
ends_after_pushes vs v none reply = record {
  enough = count-append vs (v ∷ []) ∙ rw (none, reply) refl;
  least = λ before after w e. elim (ending vs (v ∷ []) before after w e) [
    | within more k ↦ (let c = count-append before (w ∷ more) in let z : length (replies_in (before ++ w ∷ more))
        ≡ 0 = ap (λ l. length (replies_in l)) (sym k) ∙ ap length none in omega arith)
    | beyond more k l ↦ (let m : more ≡ [] = nothing_before more w after l in let z : length (replies_in before)
        ≡ 0 = ap (λ l. length (replies_in l)) (k ∙ ap (λ l. vs ++ l) m ∙ append-nil vs) ∙ ap length none in omega arith)
  ];
}
  where
    nothing_before : (more : List Frame) (w : Frame) (after : List Frame) → v ∷ [] ≡ more ++ w ∷ after → more ≡ []
    nothing_before [] w after e = refl
    nothing_before (x ∷ []) w after e = cc
    nothing_before (x ∷ y ∷ more) w after e = cc

pub ends_after_both : (m n : ℕ) (vs ws : List Frame) → EndsAtReply m vs → EndsAtReply n ws
    → EndsAtReply (m + n) (vs ++ ws)
ends_after_both m n vs ws h k = record {
  enough = (let c = count-append vs ws in let a = h.enough in let b = k.enough in omega arith);
  least = λ before after v e. elim (ending vs ws before after v e) [
    | within more i ↦ (let l = h.least before more v i in omega arith)
    | beyond more i j ↦ (let l = k.least more after v j in let a = h.enough in let c = ap (λ l. length (replies_in l)) i
        ∙ count-append vs more in omega arith)
  ];
}

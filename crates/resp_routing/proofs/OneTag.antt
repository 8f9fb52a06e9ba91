-- A key has one hash tag, and so one slot.
use Rattle.std.proofs.Common.{◌≡◌, ℕ, ◌+◌, ◌%◌, List, drop, take, Contains, Some, sym, ap, ◌∙◌, inl, inr, arith}
use Rattle.std.proofs.lemmas.Bool.{cases_order}
use Rattle.memchr.specs.Find.{IsFirstByte, is_byte}
use Rattle.resp_args.specs.Args.{Args}
use Rattle.resp_routing.specs.Checksums.{remainder}
use Rattle.resp_routing.specs.Routes.{AreApart, InOneSlot}
use Rattle.resp_routing.specs.Slots.{IsHashTag, IsSlot}

one_first : (c : ℕ) (bs : List ℕ) (i j : ℕ) → IsFirstByte (is_byte c) bs (Some i) → IsFirstByte (is_byte c) bs (Some j) → i ≡ j
one_first c bs i j one other =
    elim (cases_order i j) [
      | inl same ↦ same
      | inr apart ↦ elim apart [
        | inl before ↦ absurd (other.0.before i (omega arith) before one.1)
        | inr after ↦ absurd (one.0.before j (omega arith) after other.1)
      ]
    ]

one_tag : (key tag other : List ℕ) → IsHashTag key tag → IsHashTag key other → tag ≡ other
one_tag key tag other (inl a) (inl b) =
    let opening : b.0 ≡ a.0 = one_first 0x7b key b.0 a.0 b.1.1.0.opens a.1.1.0.opens in
    let closing : a.1.0 ≡ b.1.0 = one_first 0x7d (drop (a.0 + 1) key) a.1.0 b.1.0 a.1.1.0.closes (rw opening at b.1.1.0.closes) in
    a.1.1.2 ∙ ap (λ n. take n (drop (a.0 + 1) key)) closing ∙ ap (λ i. take b.1.0 (drop (i + 1) key)) (sym opening)
    ∙ sym b.1.1.2
one_tag key tag other (inl a) (inr b) = let none = b.0 a.0 a.1.0 a.1.1.0 in let some = a.1.1.1 in absurd (omega arith)
one_tag key tag other (inr a) (inl b) = let none = a.0 b.0 b.1.0 b.1.1.0 in let some = b.1.1.1 in absurd (omega arith)
one_tag key tag other (inr a) (inr b) = a.1 ∙ sym b.1

pub one_slot : (key : List ℕ) (s t : ℕ) → IsSlot key s → IsSlot key t → s ≡ t
one_slot key s t one other =
    one.1.1 ∙ ap (λ tag. remainder tag % 16384) (one_tag key one.0 other.0 one.1.0 other.1.0) ∙ sym other.1.1

pub not_apart : (keys : Args) (s : ℕ) → InOneSlot keys s → AreApart keys → ⊥
not_apart keys s held apart =
    let slot_at : (key : List ℕ) (t : ℕ) → Contains keys key → IsSlot key t → s ≡ t
    = λ key t there is. one_slot key s t (rw there.2 at (held.all there.0 key there.1)) is in
    apart.differ (sym (slot_at apart.one apart.slot apart.one_there apart.one_slot)
    ∙ slot_at apart.other apart.elsewhere apart.other_there apart.other_slot)

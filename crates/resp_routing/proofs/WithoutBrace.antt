-- Texts without { and their checksums.
use Rattle.std.proofs.Common.{◌≡◌, ◌≢◌, ℕ, ◌+◌, ◌<◌, Bool, zero, suc, true, false, ◌==◌, List, [], ◌∷◌, length, get_or, drop, take, ◌-◌, ◌≤◌, cond, Option, None, Some, refl, sym, ap, ◌∙◌, arith, eq-eqb, ne_eqb, inr, ◌%◌}
use Rattle.std.proofs.lemmas.Bool.{eqb-true, false≢true}
use Rattle.std.proofs.lemmas.List.{drop_more}
use Rattle.std.proofs.Math.ListN.{drop_of_length-le}
use Rattle.resp_routing.specs.Checksums.{after_byte, after_bytes, without_brace}
use Rattle.resp_routing.specs.Slots.{IsSlot}
use Rattle.resp_routing.proofs.FirstFour.{first_four}

passed : (r b : ℕ) (bs : List ℕ) → b ≢ 0x7b → without_brace r (b ∷ bs) ≡ without_brace (after_byte r b) bs
unfolding without_brace
passed r b bs other = rw (ne_eqb b 0x7b other) refl

passed_four : (r a b c d : ℕ) (bs : List ℕ) → a ≢ 0x7b → b ≢ 0x7b → c ≢ 0x7b → d ≢ 0x7b
    → without_brace r (a ∷ b ∷ c ∷ d ∷ bs)
    ≡ without_brace (after_byte (after_byte (after_byte (after_byte r a) b) c) d) bs
passed_four r a b c d bs pa pb pc pd =
    passed r a (b ∷ c ∷ d ∷ bs) pa
    ∙ passed (after_byte r a) b (c ∷ d ∷ bs) pb
    ∙ passed (after_byte (after_byte r a) b) c (d ∷ bs) pc
    ∙ passed (after_byte (after_byte (after_byte r a) b) c) d bs pd

pub next_four : (left : List ℕ) (r after : ℕ) (all : Option ℕ) → 4 ≤ length left
    → (get_or left 0 0 ≢ 0x7b) × (get_or left 1 0 ≢ 0x7b) × (get_or left 2 0 ≢ 0x7b) × (get_or left 3 0 ≢ 0x7b)
    → after ≡ after_byte (after_byte (after_byte (after_byte r (get_or left 0 0)) (get_or left 1 0)) (get_or left 2 0)) (get_or left 3 0)
    → without_brace r left ≡ all → without_brace after (take (length left - 4) (drop 4 left)) ≡ all
next_four left r after all long other is held =
    let rest : List ℕ = take (length left - 4) (drop 4 left) in
    ap (λ s. without_brace s rest) is
    ∙ sym (passed_four r (get_or left 0 0) (get_or left 1 0) (get_or left 2 0) (get_or left 3 0) rest other.0 other.1 other.2 other.3)
    ∙ sym (ap (without_brace r) (first_four left long)) ∙ held

pub passed_at : (text : List ℕ) (i r after : ℕ) → i < length text → get_or text i 0 ≢ 0x7b
    → after ≡ after_byte r (get_or text i 0) → without_brace after (drop (i + 1) text) ≡ without_brace r (drop i text)
passed_at text i r after lt other is =
    ap (λ s. without_brace s (drop (i + 1) text)) is
    ∙ sym (passed r (get_or text i 0) (drop (i + 1) text) other)
    ∙ sym (ap (without_brace r) (drop_more text i 0 lt))

pub all_passed : (text : List ℕ) (i r : ℕ) → length text ≤ i → without_brace r (drop i text) ≡ Some r
unfolding without_brace
all_passed text i r past = ap (without_brace r) (drop_of_length-le text past)

-- where the text goes on, its first byte is no {
went_on : (r s b : ℕ) (bs : List ℕ) → without_brace r (b ∷ bs) ≡ Some s
    → (b ≢ 0x7b) × (without_brace (after_byte r b) bs ≡ Some s)
unfolding without_brace
went_on r s b bs held = of_test (b == 0x7b) refl held
  where
    of_test : (brace : Bool) → (b == 0x7b) ≡ brace → cond brace None (without_brace (after_byte r b) bs) ≡ Some s
        → (b ≢ 0x7b) × (without_brace (after_byte r b) bs ≡ Some s)
    of_test true is none = cc
    of_test false is rest = (λ same. false≢true (sym is ∙ eq-eqb b 0x7b same), rest)

is_sum : (r s : ℕ) (text : List ℕ) → without_brace r text ≡ Some s → s ≡ after_bytes r text
unfolding after_bytes without_brace
is_sum r s [] held = cc
is_sum r s (b ∷ bs) held = is_sum (after_byte r b) s bs (went_on r s b bs held).1

has_none : (r s : ℕ) (text : List ℕ) (i : ℕ) → without_brace r text ≡ Some s → i < length text → get_or text i 0 ≢ 0x7b
has_none r s [] i held lt = absurd (omega arith)
has_none r s (b ∷ bs) zero held lt = (went_on r s b bs held).0
has_none r s (b ∷ bs) (suc i) held lt = has_none (after_byte r b) s bs i (went_on r s b bs held).1 (omega arith)

pub whole_slot : (key : List ℕ) (checksum : ℕ) → without_brace 0 key ≡ Some checksum → IsSlot key (checksum % 16384)
whole_slot key checksum held = (
  key,
  (
    inr (λ i n braces. absurd (has_none 0 checksum key i held braces.opens.0.high (eqb-true _ _ braces.opens.1)), refl),
    ap (λ r. r % 16384) (is_sum 0 checksum key held),
  ),
)

-- A last frame with more bytes.
use Rattle.std.proofs.Common.{◌≡◌, ℕ, ◌+◌, ◌-◌, ◌≤◌, List, [], ◌∷◌, ◌++◌, length, take, drop, length-append}
use Rattle.std.proofs.Common.{append_assoc, refl, sym, ap, ◌∙◌, arith}
use Rattle.std.specs.Prelude.{slice_range}
use Rattle.std.proofs.lemmas.List.{take-append-drop, drop-drop, length-drop}
use Rattle.std.proofs.lemmas.Grind.{common_steps}

front : (x y : List ℕ) (n : ℕ) → n ≡ length x → take n (x ++ y) ≡ x
front x y n e = grind (arith, common_steps)

pub cut_end : (b text : List ℕ) (start at n : ℕ) → start ≤ at → at + 2 ≤ length b
    → n + 2 ≡ length (take start b ++ (text ++ drop at b))
    → take n (take start b ++ (text ++ drop at b)) ≡ take start b ++ (text ++ slice_range b at (length b - 2))
cut_end b text start at n h k e =
    let m : ℕ = length b - 2 in
    let r : List ℕ = take (m - at) (drop at b) in
    let x : List ℕ = take start b ++ (text ++ r) in
    let i : m ≡ at + (m - at) = omega arith in
    let two : drop at b ≡ r ++ drop m b = sym (take-append-drop (m - at) (drop at b)) ∙ ap (λ xs. r ++ xs)
    (drop-drop (m - at) at b ∙ ap (λ j. drop j b) (sym i)) in
    let whole : take start b ++ (text ++ drop at b) ≡ x ++ drop m b = ap (λ xs. take start b ++ (text ++ xs)) two
    ∙ simp append_assoc refl in
    let len : length (take start b ++ (text ++ drop at b)) ≡ length x + length (drop m b) = ap length whole
    ∙ length-append x (drop m b) in
    let n' : n ≡ length x = omega (arith, e, len, length-drop m b) in
    ap (take n) whole ∙ front x (drop m b) n n'

pub grown : (b text more now : List ℕ) (start at n : ℕ) → start ≤ at → at + 2 ≤ length b
    → now ≡ take start b ++ (text ++ drop at b) → n + 2 ≡ length now
    → (take n now ++ more) ++ (13 ∷ 10 ∷ []) ≡ take start b
    ++ (text ++ (slice_range b at (length b - 2) ++ (more ++ 13 ∷ 10 ∷ [])))
grown b text more now start at n h k e l = rw (e, cut_end b text start at n h k (l ∙ ap length e))
    (simp append_assoc refl)

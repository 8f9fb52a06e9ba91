-- Texts that are cut at the first byte that passes a test, and texts without CR LF.
use Rattle.std.proofs.Common.{◌≡◌, ℕ, suc, ◌+◌, ◌<◌, ◌&&◌, ◌||◌, ◌==◌, Bool, true, false, not, cond, List, [], ◌∷◌}
use Rattle.std.proofs.Common.{◌++◌, length, take, drop, refl, ap, arith}
use Rattle.std.proofs.lemmas.Bool.{and_parts, and_from}
use Rattle.std.proofs.lemmas.Bool.Decides.{Decides-eqb}
use Rattle.std.proofs.lemmas.Grind.{common_steps}
use Rattle.std.specs.List.{position_or_len, before_first, after_first}
use Rattle.resp_parse.specs.Lines.{NoBreak}
use Rattle.resp_parse.proofs.ByteTests.{not_true, eq_true, eq_false}
use Rattle.resp_encode.specs.Encoding.{has_break}

-- ---- the first byte that passes

-- none passes
abbrev pub NonePasses : (ℕ → Bool) → List ℕ → Type 0
NonePasses p xs = position_or_len p xs ≡ length xs

none-rest : (p : ℕ → Bool) (x : ℕ) (xs : List ℕ) → NonePasses p (x ∷ xs) → (p x ≡ false) × NonePasses p xs
none-rest p x xs h = by (p x) refl h
  where
    by : (b : Bool) → p x ≡ b → cond (not b) (1 + position_or_len p xs) 0 ≡ suc (length xs)
        → (p x ≡ false) × NonePasses p xs
    by true e i = absurd (omega arith)
    by false e i = (e, omega arith)

pub cut-position : (p : ℕ → Bool) (xs : List ℕ) (c : ℕ) (rest : List ℕ) → NonePasses p xs → p c ≡ true
    → position_or_len p (xs ++ (c ∷ rest)) ≡ length xs
cut-position p [] c rest h e = rw e refl
cut-position p (x ∷ xs) c rest h e =
    let parts = none-rest p x xs h in
    let later = cut-position p xs c rest parts.1 e in
    rw (parts.0) (omega arith)

pub cut-before : (p : ℕ → Bool) (xs : List ℕ) (c : ℕ) (rest : List ℕ) → NonePasses p xs → p c ≡ true
    → before_first p (xs ++ (c ∷ rest)) ≡ xs
cut-before p xs c rest h e = rw (cut-position p xs c rest h e) (grind (arith, common_steps))

dropped : (xs : List ℕ) (c : ℕ) (rest : List ℕ) → drop (length xs + 1) (xs ++ (c ∷ rest)) ≡ rest
dropped [] c rest = refl
dropped (x ∷ xs) c rest = let e : suc (length xs) + 1 ≡ suc (length xs + 1) = omega arith in rw e (dropped xs c rest)

pub cut-after : (p : ℕ → Bool) (xs : List ℕ) (c : ℕ) (rest : List ℕ) → NonePasses p xs → p c ≡ true
    → after_first p (xs ++ (c ∷ rest)) ≡ rest
cut-after p xs c rest h e = rw (cut-position p xs c rest h e) (dropped xs c rest)

longer : (xs : List ℕ) (c : ℕ) (rest : List ℕ) → length xs < length (xs ++ (c ∷ rest))
longer [] c rest = omega arith
longer (x ∷ xs) c rest = let l = longer xs c rest in omega arith

pub cut-inside : (p : ℕ → Bool) (xs : List ℕ) (c : ℕ) (rest : List ℕ) → NonePasses p xs → p c ≡ true
    → (position_or_len p (xs ++ (c ∷ rest)) == length (xs ++ (c ∷ rest))) ≡ false
cut-inside p xs c rest h e = eq_false _ _ (λ same. let l = longer xs c rest in let k = cut-position p xs c rest h e in
    absurd (omega arith))

-- what stands before the first one holds none
pub before-none : (p : ℕ → Bool) (xs : List ℕ) → NonePasses p (before_first p xs)
before-none p [] = refl
before-none p (x ∷ xs) = by (p x) refl (before-none p xs)
  where
    by : (b : Bool) → p x ≡ b → NonePasses p (before_first p xs)
        → NonePasses p (take (cond (not b) (1 + position_or_len p xs) 0) (x ∷ xs))
    by true e later = refl
    by false e later =
        let k : 1 + position_or_len p xs ≡ suc (position_or_len p xs) = omega arith in
        rw (k, e) (omega arith)

-- ---- CR LF

or_false : (s t : Bool) → (s || t) ≡ false → (s ≡ false) × (t ≡ false)
or_false true t h = absurd (cc)
or_false false t h = (refl, h)

pub no_break : (text : List ℕ) → has_break text ≡ false → NoBreak text
no_break [] h [] y e = cc
no_break [] h (z ∷ x) y e = cc
no_break (b ∷ []) h [] y e = cc
no_break (b ∷ []) h (z ∷ x) y e = no_break [] refl x y (cc)
no_break (b ∷ c ∷ bs) h [] y e =
    let cr : b ≡ 13 = cc in
    let lf : c ≡ 10 = cc in
    let here : ((b == 13) && (c == 10)) ≡ true = and_from _ _ (eq_true b 13 cr) (eq_true c 10 lf) in
    let none = (or_false ((b == 13) && (c == 10)) (has_break (c ∷ bs)) h).0 in
    absurd (cc)
no_break (b ∷ c ∷ bs) h (z ∷ x) y e = no_break (c ∷ bs) (or_false ((b == 13) && (c == 10)) (has_break (c ∷ bs)) h).1 x y
    (cc)

pub no_break-from : (text : List ℕ) → NoBreak text → has_break text ≡ false
no_break-from [] n = refl
no_break-from (b ∷ []) n = refl
no_break-from (b ∷ c ∷ bs) n =
    let here : ((b == 13) && (c == 10)) ≡ false = not_true _ (λ t.
    let p = and_parts _ _ t in
    let cr : b ≡ 13 = (Decides-eqb b 13).0 p.0 in
    let lf : c ≡ 10 = (Decides-eqb c 10).0 p.1 in
    n [] bs (cc)) in
    rw here (no_break-from (c ∷ bs) (λ x y e. n (b ∷ x) y (ap (λ s. b ∷ s) e)))

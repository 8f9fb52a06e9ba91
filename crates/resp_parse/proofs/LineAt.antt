-- The first line of bytes, by the place of its LF.
use Rattle.std.proofs.Common.{◌≡◌, ℕ, zero, suc, ◌+◌, ◌-◌, ◌<◌, ◌≤◌, Bool, true, false, nat_lt, ◌&&◌, ◌==◌, List, [], ◌∷◌}
use Rattle.std.proofs.Common.{◌++◌}
use Rattle.std.proofs.Common.{length, take, drop, get_or, refl, ap, sym, subst, ◌∙◌, arith, Some}
use Rattle.std.proofs.lemmas.Bool.{and_parts, and_from, ltb-true}
use Rattle.std.proofs.lemmas.Bool.Decides.{Decides-eqb, nat_tests}
use Rattle.std.proofs.lemmas.Grind.{common_steps}
use Rattle.resp_parse.specs.Lines.{NoneBefore, Scanned}
use Rattle.resp_parse.specs.PlainReading.{got, incomplete, line}
use Rattle.resp_parse.specs.Resume.{FindsLine}
use Rattle.resp_parse.proofs.ByteTests.{not_true, eq_true}

-- no CR LF stands at the start
not_here : (b c : ℕ) (bs : List ℕ) (m : ℕ) → NoneBefore (b ∷ c ∷ bs) m → 1 < m → ((b == 13) && (c == 10)) ≡ false
not_here b c bs m none l = not_true _
    (λ t. let p = and_parts _ _ t in none 0 l ((Decides-eqb b 13).0 p.0) ((Decides-eqb c 10).0 p.1))

pub line-none : (bs : List ℕ) → NoneBefore bs (length bs) → line bs ≡ incomplete
line-none [] none = refl
line-none (b ∷ []) none = refl
line-none (b ∷ c ∷ bs) none =
    let here : ((b == 13) && (c == 10)) ≡ false = not_here b c bs (length (b ∷ c ∷ bs)) none (omega arith) in
    let later : line (c ∷ bs) ≡ incomplete = line-none (c ∷ bs) (λ k l e. none (suc k) (omega arith) e) in
    rw (here, later) refl

line-found : (bs : List ℕ) (i : ℕ) → NoneBefore bs (suc i) → suc i < length bs → get_or bs i 0 ≡ 13
    → get_or bs (suc i) 0 ≡ 10 → line bs ≡ got (take i bs) (drop (suc (suc i)) bs)
line-found [] i none l cr lf = absurd (omega arith)
line-found (b ∷ []) i none l cr lf = absurd (omega arith)
line-found (b ∷ c ∷ bs) zero none l cr lf =
    let here : ((b == 13) && (c == 10)) ≡ true = and_from _ _ (eq_true b 13 cr) (eq_true c 10 lf) in
    rw here refl
line-found (b ∷ c ∷ bs) (suc i) none l cr lf =
    let here : ((b == 13) && (c == 10)) ≡ false = not_here b c bs (suc (suc i)) none (omega arith) in
    let later : line (c ∷ bs) ≡ got (take i (c ∷ bs)) (drop (suc (suc i)) (c ∷ bs)) = line-found (c ∷ bs) i
    (λ k m e. none (suc k) (omega arith) e) (omega arith) cr lf in
    rw (here, later) refl

-- the LF stands at `at`
pub line-at : (bs : List ℕ) (at : ℕ) → 1 ≤ at → NoneBefore bs at → at < length bs → get_or bs (at - 1) 0 ≡ 13
    → get_or bs at 0 ≡ 10 → FindsLine bs (Some (at - 1))
line-at bs at one none l cr lf =
    let e : suc (at - 1) ≡ at = omega arith in
    let found = line-found bs (at - 1) (subst (NoneBefore bs) (sym e) none) (omega arith) cr
    (ap (λ k. get_or bs k 0) e ∙ lf) in
    let z : suc (suc (at - 1)) ≡ (at - 1) + 2 = omega arith in
    (omega arith, found ∙ ap (λ k. got (take (at - 1) bs) (drop k bs)) z)

-- a line that was looked at goes on
get_or-append : (bs more : List ℕ) (k : ℕ) → k < length bs → get_or (bs ++ more) k 0 ≡ get_or bs k 0
get_or-append [] more k l = absurd (omega arith)
get_or-append (b ∷ bs) more zero l = refl
get_or-append (b ∷ bs) more (suc k) l = get_or-append bs more k (omega arith)

pub Scanned-longer : (bs more : List ℕ) (n : ℕ) → Scanned bs n → Scanned (bs ++ more) n
Scanned-longer bs more n h =
    let w : n ≤ length bs = h.within in
    record {
      within = grind (arith, common_steps);
      none = λ k l cr lf. h.none k l (sym (get_or-append bs more k (omega arith)) ∙ cr)
          (sym (get_or-append bs more (suc k) (omega arith)) ∙ lf);
    }

-- bytes that hold no CR LF end before that of a line does
pub scanned-before : (bs : List ℕ) (n len : ℕ) → Scanned bs n → get_or bs len 0 ≡ 13 → get_or bs (suc len) 0 ≡ 10
    → n ≤ len + 1
scanned-before bs n len h cr lf = by_test (nat_lt (suc len) n) refl
  where
    by_test : (b : Bool) → nat_lt (suc len) n ≡ b → n ≤ len + 1
    by_test true e = absurd (h.none len (ltb-true (suc len) n e) cr lf)
    by_test false e = grind (arith, nat_tests)

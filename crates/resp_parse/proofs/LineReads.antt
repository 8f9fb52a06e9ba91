-- Reading a line gives the text before the first CR LF.
use Rattle.std.proofs.Common.{◌≡◌, ℕ, Bool, true, false, cond, ◌&&◌, ◌==◌, List, [], ◌∷◌, ◌++◌, refl, ap, subst, ◌∙◌}
use Rattle.std.proofs.Common.{append_assoc, arith}
use Rattle.std.proofs.lemmas.Bool.{and_parts, and_from}
use Rattle.std.proofs.lemmas.Bool.Decides.{Decides-eqb}
use Rattle.resp_errors.specs.declared.kinds.FrameFault.{FrameFault}
use Rattle.resp_parse.specs.Lines.{crlf, NoBreak}
use Rattle.resp_parse.specs.PlainReading.{ReadOutcome, got, fault, incomplete, then, line}
use Rattle.resp_parse.proofs.ByteTests.{not_true, eq_true}
use Rattle.resp_parse.proofs.ReadingsInSequence.{then-fault, at_first, at_next}

pub line-later : (b c : ℕ) (bs text rest : List ℕ) → ((b ≡ 13) → (c ≡ 10) → ⊥) → line (c ∷ bs) ≡ got text rest
    → line (b ∷ c ∷ bs) ≡ got (b ∷ text) rest
line-later b c bs text rest apart e =
    let here : ((b == 13) && (c == 10)) ≡ false = not_true _
    (λ t. let p = and_parts _ _ t in apart ((Decides-eqb b 13).0 p.0) ((Decides-eqb c 10).0 p.1)) in
    rw (here, e) refl

pub line-reads : (text rest : List ℕ) → NoBreak text → line (text ++ (crlf ++ rest)) ≡ got text rest
line-reads [] rest unbroken = refl
line-reads (b ∷ []) rest unbroken = line-later b 13 (10 ∷ rest) [] rest
    (λ _ e. absurd (let k : 13 ≡ 10 = e in omega arith)) refl
line-reads (b ∷ c ∷ text) rest unbroken =
    line-later b c (text ++ (crlf ++ rest)) (c ∷ text) rest
    (λ p q. unbroken [] text (let e : b ∷ c ∷ text ≡ 13 ∷ 10 ∷ text = cc in e))
    (line-reads (c ∷ text) rest (λ x y e. unbroken (b ∷ x) y (ap (λ s. b ∷ s) e)))

NoBreak-nil : NoBreak []
NoBreak-nil [] y e = absurd (cc)
NoBreak-nil (z ∷ x) y e = absurd (cc)

NoBreak-cons : (b c : ℕ) (bs text rest : List ℕ) → ((b == 13) && (c == 10)) ≡ false → c ∷ bs ≡ text ++ (crlf ++ rest)
    → NoBreak text → NoBreak (b ∷ text)
NoBreak-cons b c bs text rest here e unbroken [] y k =
    let p : b ≡ 13 = cc in
    let q : text ≡ 10 ∷ y = cc in
    let s : c ∷ bs ≡ 10 ∷ (y ++ (crlf ++ rest)) = e ∙ ap (λ w. w ++ (crlf ++ rest)) q in
    let t : c ≡ 10 = cc in
    let both : ((b == 13) && (c == 10)) ≡ true = and_from _ _ (eq_true b 13 p) (eq_true c 10 t) in
    absurd (cc)
NoBreak-cons b c bs text rest here e unbroken (z ∷ x) y k = unbroken x y (let q : text ≡ x ++ (crlf ++ y) = cc in q)

-- the bytes are this text, CR LF and the rest
abbrev pub IsLine : List ℕ → List ℕ → List ℕ → Type 0
IsLine bs text rest = (bs ≡ text ++ (crlf ++ rest)) × NoBreak text

pub line-got : (bs text rest : List ℕ) → line bs ≡ got text rest → IsLine bs text rest
line-got [] text rest e = absurd (cc)
line-got (b ∷ []) text rest e = absurd (cc)
line-got (b ∷ c ∷ bs) text rest e = by_test (λ u r. line-got (c ∷ bs) u r) ((b == 13) && (c == 10)) refl e
  where
    from_rest : (o : ReadOutcome (List ℕ)) → ((u r : List ℕ) → o ≡ got u r → IsLine (c ∷ bs) u r)
        → ((b == 13) && (c == 10)) ≡ false → then o (λ u r. got (b ∷ u) r) ≡ got text rest
        → IsLine (b ∷ c ∷ bs) text rest
    from_rest (got u r) later here k =
        let p = later u r refl in
        let et : b ∷ u ≡ text = cc in
        let er : r ≡ rest = cc in (
          ap (λ s. b ∷ s) p.0 ∙ ap (λ s. s ++ (crlf ++ r)) et ∙ ap (λ s. text ++ (crlf ++ s)) er,
          subst NoBreak et (NoBreak-cons b c bs u r here p.0 p.1),
        )
    from_rest (fault f r) later here k = absurd (cc)
    from_rest incomplete later here k = absurd (cc)

    by_test : ((u r : List ℕ) → line (c ∷ bs) ≡ got u r → IsLine (c ∷ bs) u r) → (m : Bool) → ((b == 13) && (c == 10))
        ≡ m → cond m (got [] bs) (then (line (c ∷ bs)) (λ u r. got (b ∷ u) r)) ≡ got text rest
        → IsLine (b ∷ c ∷ bs) text rest
    by_test later true here k =
        let q = and_parts _ _ here in
        let eb : b ≡ 13 = (Decides-eqb b 13).0 q.0 in
        let ec : c ≡ 10 = (Decides-eqb c 10).0 q.1 in
        let et : [] ≡ text = cc in
        let er : bs ≡ rest = cc in
        (let z : b ∷ c ∷ bs ≡ 13 ∷ 10 ∷ rest = cc in z ∙ ap (λ s. s ++ (crlf ++ rest)) et, subst NoBreak et NoBreak-nil)
    by_test later false here k = from_rest (line (c ∷ bs)) later here k

pub line-no_fault : (bs rest : List ℕ) (f : FrameFault) → line bs ≡ fault f rest → ⊥
line-no_fault [] rest f e = cc
line-no_fault (b ∷ []) rest f e = cc
line-no_fault (b ∷ c ∷ bs) rest f e = by_test (λ k. line-no_fault (c ∷ bs) rest f k) ((b == 13) && (c == 10)) e
  where
    by_test : (line (c ∷ bs) ≡ fault f rest → ⊥) → (m : Bool)
        → cond m (got [] bs) (then (line (c ∷ bs)) (λ u r. got (b ∷ u) r)) ≡ fault f rest → ⊥
    by_test later true k = cc
    by_test later false k = elim (then-fault (line (c ∷ bs)) (λ u r. got (b ∷ u) r) f rest k)
        [ at_first h ↦ later h | at_next p ↦ let z = p.next in cc ]

-- more bytes after a line stand after it
pub line-longer : (bs more text rest : List ℕ) → line bs ≡ got text rest → line (bs ++ more) ≡ got text (rest ++ more)
line-longer bs more text rest e =
    let p = line-got bs text rest e in
    ap (λ s. line (s ++ more)) p.0 ∙ ap line (append_assoc text (crlf ++ rest) more)
    ∙ line-reads text (rest ++ more) p.1

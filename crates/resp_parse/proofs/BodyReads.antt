-- Reading a body gives its bytes, or the byte that isn't its CR LF.
use Rattle.std.proofs.Common.{◌≡◌, ◌≢◌, ℕ, zero, suc, Bool, true, false, cond, ◌==◌, List, [], ◌∷◌, ◌++◌, length, refl}
use Rattle.std.proofs.Common.{ap, sym, ◌∙◌, append_assoc}
use Rattle.std.proofs.lemmas.Bool.Decides.{Decides-eqb}
use Rattle.resp_errors.specs.declared.kinds.FrameFault.{FrameFault}
use Rattle.resp_errors.specs.declared.kinds.FrameFault.TheVariants.{BodyEnd}
use Rattle.resp_parse.specs.Lines.{crlf}
use Rattle.resp_parse.specs.Grammar.{EndIsMalformed, no_cr, no_lf}
use Rattle.resp_parse.specs.PlainReading.{ReadOutcome, got, fault, incomplete, end_of_body, read_body}
use Rattle.resp_parse.proofs.ByteTests.{eq_true, eq_false}
use Rattle.resp_parse.proofs.ReadingsInSequence.{then-got, then-fault, at_first, at_next}

body-spelled : (x rest : List ℕ) → read_body (length x) (x ++ (crlf ++ rest)) ≡ got x rest
body-spelled [] rest = refl
body-spelled (b ∷ x) rest = rw (body-spelled x rest) refl

pub body-reads : (n : ℕ) (b x rest : List ℕ) → length x ≡ n → b ≡ x ++ crlf → read_body n (b ++ rest) ≡ got x rest
body-reads n b x rest l e =
    ap (λ k. read_body k (b ++ rest)) (sym l) ∙ ap (λ s. read_body (length x) (s ++ rest)) e
    ∙ ap (read_body (length x)) (append_assoc x crlf rest) ∙ body-spelled x rest

pub end-other : (c : ℕ) (rest : List ℕ) → c ≢ 13 → end_of_body (c ∷ rest) ≡ fault BodyEnd rest
end-other c [] n = rw (eq_false c 13 n) refl
end-other c (d ∷ rest) n = rw (eq_false c 13 n) refl

body-no_cr : (x rest : List ℕ) (c : ℕ) → c ≢ 13 → read_body (length x) (x ++ (c ∷ rest)) ≡ fault BodyEnd rest
body-no_cr [] rest c n = end-other c rest n
body-no_cr (b ∷ x) rest c n = rw (body-no_cr x rest c n) refl

body-no_lf : (x rest : List ℕ) (c : ℕ) → c ≢ 10 → read_body (length x) (x ++ (13 ∷ c ∷ rest)) ≡ fault BodyEnd rest
body-no_lf [] rest c n = rw (eq_false c 10 n) refl
body-no_lf (b ∷ x) rest c n = rw (body-no_lf x rest c n) refl

pub body-fails : (n : ℕ) (b rest : List ℕ) → EndIsMalformed n b → read_body n (b ++ rest) ≡ fault BodyEnd rest
body-fails n b rest (no_cr x c l d e) =
    ap (λ k. read_body k (b ++ rest)) (sym l) ∙ ap (λ s. read_body (length x) (s ++ rest)) e
    ∙ ap (read_body (length x)) (append_assoc x (c ∷ []) rest) ∙ body-no_cr x rest c d
body-fails n b rest (no_lf x c l d e) =
    ap (λ k. read_body k (b ++ rest)) (sym l) ∙ ap (λ s. read_body (length x) (s ++ rest)) e
    ∙ ap (read_body (length x)) (append_assoc x (13 ∷ c ∷ []) rest) ∙ body-no_lf x rest c d

end-got : (bs x rest : List ℕ) → end_of_body bs ≡ got x rest → (x ≡ []) × (bs ≡ crlf ++ rest)
end-got [] x rest e = absurd (cc)
end-got (b ∷ []) x rest e = absurd (by_test (b == 13) e)
  where
    by_test : (m : Bool) → cond m incomplete (fault BodyEnd []) ≡ got x rest → ⊥
    by_test true k = cc
    by_test false k = cc
end-got (b ∷ c ∷ bs) x rest e = by_tests (b == 13) refl (c == 10) refl e
  where
    by_tests : (m : Bool) → (b == 13) ≡ m → (n : Bool) → (c == 10) ≡ n
        → cond m (cond n (got [] bs) (fault BodyEnd bs)) (fault BodyEnd (c ∷ bs)) ≡ got x rest → (x ≡ [])
        × (b ∷ c ∷ bs ≡ crlf ++ rest)
    by_tests true p true q k =
        let eb : b ≡ 13 = (Decides-eqb b 13).0 p in
        let ec : c ≡ 10 = (Decides-eqb c 10).0 q in
        (let i : x ≡ [] = cc in i, let j : b ∷ c ∷ bs ≡ 13 ∷ 10 ∷ rest = cc in j)
    by_tests true p false q k = absurd (cc)
    by_tests false p n q k = absurd (cc)

pub body-got : (n : ℕ) (bs x rest : List ℕ) → read_body n bs ≡ got x rest → (length x ≡ n) × (bs ≡ x ++ (crlf ++ rest))
body-got zero bs x rest e =
    let p = end-got bs x rest e in (ap length p.0, p.1 ∙ ap (λ s. s ++ (crlf ++ rest)) (sym p.0))
body-got (suc n) [] x rest e = absurd (cc)
body-got (suc n) (b ∷ bs) x rest e =
    let p = then-got (read_body n bs) (λ u r. got (b ∷ u) r) x rest e in
    let q = body-got n bs p.first p.mid p.got_first in
    let ex : b ∷ p.first ≡ x = (let k = p.next in cc) in
    let er : p.mid ≡ rest = (let k = p.next in cc) in (
      ap length (sym ex) ∙ ap suc q.0,
      ap (λ s. b ∷ s) q.1 ∙ ap (λ s. s ++ (crlf ++ p.mid)) ex
          ∙ ap (λ s. x ++ (crlf ++ s)) er,
    )

-- a prefix of the bytes is a body that has a malformed end, and the rest follows
pub record MalformedBodyPrefix (n : ℕ) (bs : List ℕ) (f : FrameFault) (rest : List ℕ) : Type 0 where
  pub prefix : List ℕ
  pub whole : bs ≡ prefix ++ rest
  pub fault_is : f ≡ BodyEnd
  pub bad_end : EndIsMalformed n prefix

abbrev malformed_end : List ℕ → ReadOutcome (List ℕ)
malformed_end rest = fault BodyEnd rest

end-fault : (bs : List ℕ) (f : FrameFault) (rest : List ℕ) → end_of_body bs ≡ fault f rest
    → MalformedBodyPrefix 0 bs f rest
end-fault [] f rest e = absurd (cc)
end-fault (b ∷ []) f rest e = by_test (b == 13) refl e
  where
    by_test : (m : Bool) → (b == 13) ≡ m → cond m incomplete (malformed_end []) ≡ fault f rest
        → MalformedBodyPrefix 0 (b ∷ []) f rest
    by_test true p k = absurd (cc)
    by_test false p k = record {
      prefix = b ∷ [];
      whole = (let i : [] ≡ rest = cc in ap (λ s. b ∷ s) i);
      fault_is = (let i : f ≡ BodyEnd = cc in i);
      bad_end = no_cr [] b refl (λ e. absurd (let t = eq_true b 13 e in cc)) refl;
    }
end-fault (b ∷ c ∷ bs) f rest e = by_tests (b == 13) refl (c == 10) refl e
  where
    by_tests : (m : Bool) → (b == 13) ≡ m → (n : Bool) → (c == 10) ≡ n
        → cond m (cond n (got [] bs) (malformed_end bs)) (malformed_end (c ∷ bs)) ≡ fault f rest
        → MalformedBodyPrefix 0 (b ∷ c ∷ bs) f rest
    by_tests true p true q k = absurd (cc)
    by_tests true p false q k = record {
      prefix = 13 ∷ c ∷ [];
      whole = (let i : bs ≡ rest = cc in let j : b ≡ 13 = (Decides-eqb b 13).0 p in cc);
      fault_is = (let i : f ≡ BodyEnd = cc in i);
      bad_end = no_lf [] c refl (λ e. absurd (let t = eq_true c 10 e in cc)) refl;
    }
    by_tests false p n q k = record {
      prefix = b ∷ [];
      whole = (let i : c ∷ bs ≡ rest = cc in ap (λ s. b ∷ s) i);
      fault_is = (let i : f ≡ BodyEnd = cc in i);
      bad_end = no_cr [] b refl (λ e. absurd (let t = eq_true b 13 e in cc)) refl;
    }

EndIsMalformed-cons : (n b : ℕ) (x : List ℕ) → EndIsMalformed n x → EndIsMalformed (suc n) (b ∷ x)
EndIsMalformed-cons n b x (no_cr y c l d e) = no_cr (b ∷ y) c (ap suc l) d (ap (λ s. b ∷ s) e)
EndIsMalformed-cons n b x (no_lf y c l d e) = no_lf (b ∷ y) c (ap suc l) d (ap (λ s. b ∷ s) e)

pub body-fault : (n : ℕ) (bs : List ℕ) (f : FrameFault) (rest : List ℕ) → read_body n bs ≡ fault f rest
    → MalformedBodyPrefix n bs f rest
body-fault zero bs f rest e = end-fault bs f rest e
body-fault (suc n) [] f rest e = absurd (cc)
body-fault (suc n) (b ∷ bs) f rest e = elim (then-fault (read_body n bs) (λ u r. got (b ∷ u) r) f rest e) [
  | at_first h ↦ more (body-fault n bs f rest h)
  | at_next p ↦ absurd (let z = p.next in cc)
]
  where
    more : MalformedBodyPrefix n bs f rest → MalformedBodyPrefix (suc n) (b ∷ bs) f rest
    more h = record {
      prefix = b ∷ h.prefix;
      whole = ap (λ s. b ∷ s) h.whole;
      fault_is = h.fault_is;
      bad_end =
          EndIsMalformed-cons n b h.prefix h.bad_end;
    }

-- A parser between values that drops the first of its bytes.
use Rattle.std.proofs.Common.{◌≡◌, ℕ, zero, suc, ◌+◌, ◌-◌, ◌≤◌, ◌<◌, Bool, true, false, List, [], ◌∷◌, ◌++◌, length, Option}
use Rattle.std.proofs.Common.{drop, refl, ap, sym, ◌∙◌, subst, arith, Some, None}
use Rattle.std.proofs.lemmas.List.{length-drop}
use Rattle.resp_parse.specs.declared.body.Body.{Body}
use Rattle.resp_parse.specs.declared.machine.Machine.{Machine}
use Rattle.resp_parse.specs.Counts.{Counts}
use Rattle.resp_parse.specs.Resume.{fresh_of, IsLooked, IsScanned}
use Rattle.resp_parse.specs.Invariant.{Resumes, Holds, Counted, CountsTaken}
use Rattle.resp_parse.proofs.Counting.{scanned-within}
use Rattle.resp_parse.proofs.HeadersInPieces.{IsScanned-zero}
use Rattle.resp_parse.proofs.Holding.{resume-fresh, nothing_open, Holds-working}

-- ---- bytes of a line that were looked at

looked-next : (c : ℕ) (u : List ℕ) (k : ℕ) → IsLooked (c ∷ u) k → IsLooked u (k - 1)
looked-next c [] k h = IsScanned-zero None (k - 1) [] (let w : k ≤ 1 = h.within in omega (arith, w))
looked-next c (d ∷ u) k h =
    let w : k ≤ suc (suc (length u)) = h.within in
    record {
      within = omega (arith, w);
      rest = record {
        within = omega (arith, w);
        none = λ i l cr lf. h.rest.none (suc i) (omega (arith, l)) cr lf;
      };
    }

looked-skipped : (n : ℕ) (u : List ℕ) (k : ℕ) → IsLooked u k → IsLooked (drop n u) (k - n)
looked-skipped zero u k h = let z : k - 0 ≡ k = omega arith in rw z h
looked-skipped (suc n) [] k h = IsScanned-zero None (k - suc n) [] (let w : k ≤ 0 = h.within in omega (arith, w))
looked-skipped (suc n) (c ∷ u) k h =
    let z : k - 1 - n ≡ k - suc n = omega arith in
    subst (IsLooked (drop n u)) z (looked-skipped n u (k - 1) (looked-next c u k h))

scanned-skipped : (b : Option Body) (n : ℕ) (u : List ℕ) (k : ℕ) → IsScanned b k u → IsScanned b (k - n) (drop n u)
scanned-skipped None n u k h = looked-skipped n u k h
scanned-skipped (Some b) n u k h = omega (arith, h)

drop-parts : (n : ℕ) (xs ys : List ℕ) → drop n (xs ++ ys) ≡ drop n xs ++ drop (n - length xs) ys
drop-parts zero xs ys = let z : 0 - length xs ≡ 0 = omega arith in rw z refl
drop-parts (suc n) [] ys = let z : suc n - 0 ≡ suc n = omega arith in rw z refl
drop-parts (suc n) (x ∷ xs) ys =
    let z : suc n - suc (length xs) ≡ n - length xs = omega arith in
    drop-parts n xs ys ∙ ap (λ k. drop n xs ++ drop k ys) (sym z)

-- ---- a machine that rests

pub fresh-between : {B : Type 0} (m : Machine B) (u since : List ℕ) → Resumes m u since → since ≡ u
    → fresh_of m.body m.open_aggregates ≡ true
fresh-between m u since h e = by_fresh (fresh_of m.body m.open_aggregates) refl
  where
    by_fresh : (x : Bool) → fresh_of m.body m.open_aggregates ≡ x → fresh_of m.body m.open_aggregates ≡ true
    by_fresh true z = z
    by_fresh false z = absurd
        (let l : length u < length since = h.begun z in let y : length since ≡ length u = ap length e in omega
        (arith, l, y))

module _ {B : Type 0} (m : Machine B) (n k : ℕ) (k_is : k ≡ m.scanned - n)
    (fresh : fresh_of m.body m.open_aggregates ≡ true) where
  abbrev now : Machine B
  now = record m { scanned = k }

  resumes-skipped : (u : List ℕ) → IsScanned m.body m.scanned u → Resumes now (drop n u) (drop n u)
  resumes-skipped u h = record {
    scanned = rw k_is (scanned-skipped m.body n u m.scanned h);
    reads = λ more. resume-fresh now fresh (drop n u ++ more);
    fresh = λ _. refl;
    begun = λ z. absurd (let y : true ≡ false = sym fresh ∙ z in cc);
    built_within = (let o = nothing_open m.body m.open_aggregates fresh in rw (o.no_body, o.no_frame) (omega arith));
  }

  pub holds-skipped : (u since v s : List ℕ) (failed : Bool) → v ≡ drop n u → s ≡ drop n u → failed ≡ false
      → Holds m u since failed → Holds now v s failed
  holds-skipped u since v s failed e f w h = rw (e, f) (Holds-working now (drop n u) (drop n u) failed
      (resumes-skipped u (h.resumes w).scanned))

  pub counted-skipped : (u v : List ℕ) (failed : Bool) (c d : Counts) → v ≡ drop n u → n ≤ length u → failed ≡ false
      → IsScanned m.body m.scanned u → Counted m u c failed → d ≡ record c { examined = c.examined + (n - m.scanned) }
      → Counted now v d failed
  counted-skipped u v failed c d v_is within w s h e =
      let b = h.works w in
      let z : m.scanned ≤ length u = scanned-within m.body m.scanned u s in
      let l : length v ≡ length u - n = ap length v_is ∙ length-drop n u in
      let iterations : d.iterations ≡ c.iterations = ap (λ (t : Counts). t.iterations) e in
      let looks : d.looks ≡ c.looks = ap (λ (t : Counts). t.looks) e in
      let received : d.received ≡ c.received = ap (λ (t : Counts). t.received) e in
      let examined : d.examined ≡ c.examined + (n - m.scanned) = ap (λ (t : Counts). t.examined) e in
      let calls : d.calls ≡ c.calls = ap (λ (t : Counts). t.calls) e in
      record {
        iterations = omega (arith, h.iterations, iterations, examined, calls);
        looks = omega (arith, h.looks, looks, examined);
        examined = omega (arith, b.accounted, z, within, received, examined);
        works = λ _. record {
          cost = (let o = nothing_open m.body m.open_aggregates fresh in let cost = b.cost in
              rw (o.no_body, o.no_frame) (omega (arith, rw (o.no_body, o.no_frame) at cost, iterations, examined, calls, k_is)));
          accounted = omega (arith, b.accounted, z, within, received, examined, l, k_is);
        };
      }

  pub taken-skipped : (most : ℕ) (u since v s : List ℕ) (count : ℕ) → v ≡ drop n u → s ≡ drop n u → since ≡ u
      → CountsTaken most m u since count → CountsTaken most now v s count
  taken-skipped most u since v s count v_is s_is e h =
      let all : count + length u ≡ length since = h.counted in
      let same : length since ≡ length u = ap length e in
      let before_is : h.before ≡ h.kept = h.resumes.fresh fresh in
      let few : length h.before ≤ most = h.few in
      let size : length h.before ≡ length h.kept = ap length before_is in
      let left : length (drop n h.kept) ≡ length h.kept - n = length-drop n h.kept in
      let parts = drop-parts n h.kept h.later in
      let none : count ≡ 0 = omega (arith, all, same) in
      let length-same : length v ≡ length s = ap length (v_is ∙ sym s_is) in
      record {
        counted = omega (arith, none, length-same);
        kept = drop n h.kept;
        before = drop n h.kept;
        later = drop (n - length h.kept) h.later;
        unparsed_is = v_is ∙ ap (drop n) h.unparsed_is ∙ parts;
        since_is = s_is ∙ ap (drop n) h.unparsed_is ∙ parts;
        resumes = resumes-skipped h.kept h.resumes.scanned;
        few = omega (arith, few, size, left);
      }

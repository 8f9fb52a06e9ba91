-- How many bytes of the value in progress the machine took, from call to call, and the bytes that the value may have.
use Rattle.std.proofs.Common.{◌≡◌, ℕ, ◌+◌, ◌-◌, ◌≤◌, true, List, [], ◌++◌, length, take, drop, refl, ap, sym, ◌∙◌}
use Rattle.std.proofs.Common.{subst, append_assoc, arith, ◌⊎◌, inl, inr}
use Rattle.std.proofs.lemmas.Grind.{common_steps}
use Rattle.std.proofs.lemmas.List.{append-nil, length-append}
use Rattle.std.proofs.Math.Seq.{take-append-add, drop-append-add}
use Rattle.resp_parse.specs.declared.machine.Machine.{Machine}
use Rattle.resp_parse.specs.Counts.{Counts}
use Rattle.resp_parse.specs.Resume.{fresh_of, Waits}
use Rattle.resp_parse.specs.Filling.{FilledOpenBody}
use Rattle.resp_parse.specs.Costs.{least_bytes}
use Rattle.resp_parse.specs.Invariant.{Resumes, CountsTaken}
use Rattle.resp_parse.proofs.Holding.{Resumes-fresh, Resumes-fed, Resumes-waits}
use Rattle.resp_parse.proofs.FilledBodies.{Resumes-filled, apart-taken, apart-none}

-- nothing of a value was looked at
pub CountsTaken-fresh : {B : Type 0} (most : ℕ) (m : Machine B) (u since : List ℕ) → fresh_of m.body m.open_aggregates
    ≡ true → m.scanned ≡ 0 → u ≡ since → CountsTaken most m u since 0
CountsTaken-fresh most m u since f s e = record {
  counted = omega (arith, ap length e);
  kept = [];
  before = [];
  later = since;
  unparsed_is = e;
  since_is = refl;
  resumes = Resumes-fresh m [] f s;
  few = omega arith;
}

-- bytes were fed, the first straight to the open body
module _ {B : Type 0} (most : ℕ) (m new : Machine B) (c d : Counts) (u u' since since' bytes direct rest : List ℕ)
    (n : ℕ) (h : CountsTaken most m u since n) (f : FilledOpenBody m direct new c d) (few : n + length direct ≤ most)
    (joined : direct ++ rest ≡ bytes)
    (unparsed : u' ≡ u ++ rest) (received : since' ≡ since ++ bytes) where
  counted : n + length direct + length u' ≡ length since'
  counted =
      let k : length since' ≡ length since + length bytes = ap length received ∙ length-append since bytes in
      let j : length bytes ≡ length direct + length rest = ap length (sym joined) ∙ length-append direct rest in
      let i : length u' ≡ length u + length rest = ap length unparsed ∙ length-append u rest in
      omega (arith, h.counted, k, j, i)

  since-now : since' ≡ (since ++ direct) ++ rest
  since-now = received ∙ ap (λ x. since ++ x) (sym joined) ∙ sym (append_assoc since direct rest)

  -- all bytes before them were taken
  fed-taken : u ≡ [] → CountsTaken most new u' since' (n + length direct)
  fed-taken e =
      let parts : h.kept ++ h.later ≡ [] = sym h.unparsed_is ∙ e in
      let none : h.kept ≡ [] = grind (arith, common_steps, parts) in
      let last : h.later ≡ [] = grind (arith, common_steps, parts) in
      let all : h.before ≡ since = sym (append-nil h.before) ∙ ap (λ x. h.before ++ x) (sym last) ∙ sym h.since_is in
      let resumed : Resumes m [] since = subst (λ x. Resumes m x since) none
      (subst (λ x. Resumes m h.kept x) all h.resumes) in
      let size : length since ≡ n = (let z : length u ≡ 0 = ap length e in omega (arith, h.counted, z)) in
      let both : length (since ++ direct) ≡ length since + length direct = length-append since direct in
      record {
        counted = counted;
        kept = [];
        before = since ++ direct;
        later = rest;
        unparsed_is = unparsed ∙ ap (λ x. x ++ rest) e;
        since_is = since-now;
        resumes = Resumes-filled m new c d [] since direct resumed f (apart-taken [] direct refl);
        few = omega (arith, few, size, both);
      }

  -- none of them went to a body
  fed-none : direct ≡ [] → CountsTaken most new u' since' (n + length direct)
  fed-none e = record {
    counted = counted;
    kept = h.kept;
    before = h.before ++ direct;
    later = h.later ++ rest;
    unparsed_is = unparsed ∙ ap (λ x. x ++ rest) h.unparsed_is ∙ append_assoc h.kept h.later rest;
    since_is = since-now ∙ ap (λ x. x ++ rest) (ap (λ x. since ++ x) e ∙ append-nil since ∙ h.since_is)
        ∙ append_assoc h.before h.later rest ∙ ap (λ x. x ++ (h.later ++ rest))
        (sym (append-nil h.before) ∙ ap (λ x. h.before ++ x) (sym e));
    resumes = Resumes-filled m new c d h.kept h.before direct h.resumes f (apart-none h.kept direct e);
    few = (let both : length (h.before ++ direct)
        ≡ length h.before + length direct = length-append h.before direct in let z : length direct
        ≡ 0 = ap length e in omega (arith, h.few, both, z));
  }

  pub CountsTaken-fed : (u ≡ []) ⊎ (direct ≡ []) → CountsTaken most new u' since' (n + length direct)
  CountsTaken-fed (inl e) = fed-taken e
  CountsTaken-fed (inr e) = fed-none e

-- of the unparsed bytes and of those since the last value, the ones that the value may have
module _ {B : Type 0} (most : ℕ) (m : Machine B) (u since : List ℕ) (n : ℕ) (h : CountsTaken most m u since n) where
  before-size : n + length h.kept ≡ length h.before
  before-size =
      let a : length u ≡ length h.kept + length h.later = ap length h.unparsed_is ∙ length-append h.kept h.later in
      let b : length since ≡ length h.before + length h.later = ap length h.since_is ∙ length-append h.before h.later in
      omega (arith, h.counted, a, b)

  pub within-limit : n ≤ most
  within-limit = omega (arith, before-size, h.few)

  of-unparsed : most - n ≡ length h.kept + (most - length h.before)
  of-unparsed = omega (arith, before-size, h.few)

  of-since : most ≡ length h.before + (most - length h.before)
  of-since = omega (arith, h.few)

  front-unparsed : take (most - n) u ≡ h.kept ++ take (most - length h.before) h.later
  front-unparsed = ap (λ k. take k u) of-unparsed ∙ ap (take (length h.kept + (most - length h.before))) h.unparsed_is
      ∙ take-append-add h.kept h.later (most - length h.before)

  front-since : take most since ≡ h.before ++ take (most - length h.before) h.later
  front-since = ap (λ k. take k since) of-since ∙ ap (take (length h.before + (most - length h.before))) h.since_is
      ∙ take-append-add h.before h.later (most - length h.before)

  pub Resumes-front : Resumes m (take (most - n) u) (take most since)
  Resumes-front = rw (front-unparsed, front-since)
      (Resumes-fed m h.kept h.before (take (most - length h.before) h.later) h.resumes)

  pub same-later : drop (most - n) u ≡ drop most since
  same-later =
      ap (λ k. drop k u) of-unparsed ∙ ap (drop (length h.kept + (most - length h.before))) h.unparsed_is
      ∙ drop-append-add h.kept h.later (most - length h.before)
      ∙ sym (ap (λ k. drop k since) of-since ∙ ap (drop (length h.before + (most - length h.before))) h.since_is
      ∙ drop-append-add h.before h.later (most - length h.before))

  pub front-size : n + length (take (most - n) u) ≡ length (take most since)
  front-size =
      let a : length (take (most - n) u) ≡ length h.kept + length (take (most - length h.before) h.later) = ap length
      front-unparsed ∙ length-append h.kept (take (most - length h.before) h.later) in
      let b : length (take most since) ≡ length h.before + length (take (most - length h.before) h.later) = ap length
      front-since ∙ length-append h.before (take (most - length h.before) h.later) in
      omega (arith, before-size, a, b)

-- the machine went on in all bytes since the last value, and more are awaited
pub CountsTaken-waits : {B : Type 0} (most : ℕ) (m new : Machine B) (u since : List ℕ) (n k : ℕ) → Resumes m u since
    → n + length u ≡ length since → length since ≤ most → Waits m u new k → new.depth ≡ m.depth
    → least_bytes new ≤ least_bytes m + k → CountsTaken most new (drop k u) since (n + k)
CountsTaken-waits most m new u since n k h size few d same w = record {
  counted = (let l : k ≤ length u = d.within in let r : length (drop k u) ≡ length u - k = grind (
    arith,
    common_steps,
  ) in omega (arith, size, l, r));
  kept = drop k u;
  before = since;
  later = [];
  unparsed_is = sym (append-nil (drop k u));
  since_is = sym (append-nil since);
  resumes = Resumes-waits m new u since h k d same w;
  few = few;
}

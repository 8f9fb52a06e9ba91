-- Steps, one after another.
use Rattle.std.proofs.Common.{◌≡◌, ℕ, ◌+◌, ◌<◌, ◌≤◌, true, false, List, [], ◌∷◌, ◌++◌, length, drop, refl, ap, sym, ◌∙◌}
use Rattle.std.proofs.Common.{subst, arith, Some, None, Ok, Err}
use Rattle.std.proofs.lemmas.Grind.{common_steps}
use Rattle.resp_value.specs.declared.value.Value.{Value}
use Rattle.resp_parse.specs.declared.read_error.ReadError.{ReadError}
use Rattle.resp_parse.specs.declared.read_error.ReadError.TheVariants.{Memory, Fault}
use Rattle.resp_parse.specs.declared.machine.Machine.{Machine}
use Rattle.resp_parse.specs.declared.machine.Step.TheVariants as step
use Rattle.resp_errors.specs.declared.kinds.FrameFault.{FrameFault}
use Rattle.resp_parse.specs.PlainReading.{got, fault, incomplete}
use Rattle.resp_parse.specs.Resume.{place, resume, fresh_of, IsScanned, Ends, Steps, Ran, Runs, Completes}
use Rattle.resp_parse.proofs.BodiesInPieces.{drop-all, drop-drop}
use Rattle.resp_parse.proofs.HeadersInPieces.{resume-nothing, IsScanned-zero}

pub Ran-start : {B : Type 0} (m : Machine B) (bytes : List ℕ) → length m.open_aggregates ≤ m.depth
    → IsScanned m.body m.scanned bytes → Ran m m bytes 0
Ran-start m bytes l s = record {
  within = omega arith;
  same = λ more. refl;
  limit = refl;
  depth = l;
  scanned = s;
  fresh = λ _. refl;
  begun = λ _.
      refl;
}

-- all bytes were taken
pub Ran-end : {B : Type 0} (old m : Machine B) (bytes : List ℕ) (at : ℕ) → Ran old m bytes at → length bytes ≤ at
    → Runs old bytes m (Ok (at, None))
Ran-end old m bytes at h l = record {
  within = h.within;
  same = h.same;
  waits = ap (resume m) (drop-all at bytes l) ∙ resume-nothing m;
  scanned = h.scanned;
  fresh = h.fresh;
  begun = h.begun;
}

module _ {B : Type 0} (old m : Machine B) (bytes : List ℕ) (at : ℕ) (h : Ran old m bytes at) where
  dropped : (n : ℕ) → drop n (drop at bytes) ≡ drop (at + n) bytes
  dropped n = drop-drop at n bytes

  within : (n : ℕ) → n ≤ length (drop at bytes) → at + n ≤ length bytes
  within n l = let w : at ≤ length bytes = h.within in grind (arith, common_steps)

  pub Ran-malformed : (new end : Machine B) (f : FrameFault) → end.shown ≡ at + new.shown → at < length bytes
      → Steps m (drop at bytes) new (Err (Fault f)) → Runs old bytes end (Err (Fault f))
  Ran-malformed new end f e l s = (
    rw e (within new.shown s.0, λ more. h.same more ∙ s.1 more ∙ ap (λ x. fault f (x ++ more)) (dropped new.shown)),
    omega arith,
  )

  pub Ran-waits : (new : Machine B) (n : ℕ) → Steps m (drop at bytes) new (Ok (step.Waits n))
      → Runs old bytes new (Ok (at + n, None))
  Ran-waits new n s = record {
    within = within n s.within;
    same = λ more. h.same more ∙ s.same more ∙ ap (λ x. resume new (x ++ more)) (dropped n);
    waits = ap (resume new) (sym (dropped n)) ∙ s.waits;
    scanned = subst (IsScanned new.body new.scanned) (dropped n) s.scanned;
    fresh = λ e. let z : n ≡ 0 = s.fresh e in let y : at ≡ 0 = h.fresh (sym (s.begun z) ∙ e) in omega arith;
    begun = λ e. let z : n ≡ 0 = omega arith in let y : at ≡ 0 = omega arith in s.begun z ∙ h.begun y;
  }

  -- bytes were taken, and something is open
  Ran-takes : (new : Machine B) (n : ℕ) → 0 < n → n ≤ length (drop at bytes)
      → ((more : List ℕ) → resume m (drop at bytes ++ more) ≡ resume new (drop n (drop at bytes) ++ more)) →
      new.scanned ≡ 0 → fresh_of new.body new.open_aggregates ≡ false → new.depth ≡ m.depth
      → length new.open_aggregates ≤ new.depth → Ran old new bytes (at + n)
  Ran-takes new n some w same z f k l = record {
    within = within n w;
    same = λ more. h.same more ∙ same more ∙ ap (λ x. resume new (x ++ more)) (dropped n);
    limit = k ∙ h.limit;
    depth = l;
    scanned = IsScanned-zero new.body new.scanned (drop (at + n) bytes) z;
    fresh = λ e. absurd (let y : true ≡ false = sym e ∙ f in cc);
    begun = λ e. absurd (omega arith);
  }

  pub Ran-goes : (new : Machine B) (n : ℕ) → Steps m (drop at bytes) new (Ok (step.Goes n)) → new.depth ≡ m.depth
      → length new.open_aggregates ≤ new.depth → Ran old new bytes (at + n)
  Ran-goes new n s k l = Ran-takes new n s.0.some s.0.within s.0.same s.0.scanned s.1 k l

  -- and the machine took more
  pub Ran-further : (new : Machine B) (n : ℕ) → Ran m new (drop at bytes) n → Ran old new bytes (at + n)
  Ran-further new n k = record {
    within = within n k.within;
    same = λ more. h.same more ∙ k.same more ∙ ap (λ x. resume new (x ++ more)) (dropped n);
    limit = k.limit ∙ h.limit;
    depth = k.depth;
    scanned = subst (IsScanned new.body new.scanned) (dropped n) k.scanned;
    fresh = λ e. let z : n ≡ 0 = k.fresh e in let y : at ≡ 0 = h.fresh (sym (k.begun z) ∙ e) in omega arith;
    begun = λ e. let z : n ≡ 0 = omega arith in let y : at ≡ 0 = omega arith in k.begun z ∙ h.begun y;
  }

  -- a value is whole, and was put where it belongs
  module _ (mid new : Machine B) (n : ℕ) (v : Value) (s : Steps m (drop at bytes) mid (Ok (step.Whole n v))) where
    pub Ran-attaches : Ends (place mid.depth mid.open_aggregates v) new (Ok None) → new.scanned ≡ mid.scanned
        → new.depth ≡ m.depth → length new.open_aggregates ≤ new.depth → Ran old new bytes (at + n)
    Ran-attaches e z k l =
        Ran-takes new n s.0.some s.0.within (λ more. s.0.same more ∙ e.0 (drop n (drop at bytes) ++ more))
        (z ∙ s.0.scanned) e.1 k l

    pub Ran-reads : (w : Value) → Ends (place mid.depth mid.open_aggregates v) new (Ok (Some w)) → new.scanned
        ≡ mid.scanned → Runs old bytes new (Ok (at + n, Some w))
    Ran-reads w e z = record {
      within = within n s.0.within;
      same = λ more. h.same more ∙ s.0.same more ∙ e.0 (drop n (drop at bytes) ++ more)
          ∙ ap (λ x. got w (x ++ more)) (dropped n);
      fresh = e.1;
      scanned = z ∙ s.0.scanned;
    }

    pub Ran-refused : (end : Machine B) (e : ReadError) → end.shown ≡ at + n → at < length bytes
        → Ends (place mid.depth mid.open_aggregates v) new (Err e) → Runs old bytes end (Err e)
    Ran-refused end Memory i l k = (tt, omega arith)
    Ran-refused end (Fault f) i l k = (
      rw i (
        within n s.0.within,
        λ more. h.same more ∙ s.0.same more ∙ k (drop n (drop at bytes) ++ more)
            ∙ ap (λ x. fault f (x ++ more)) (dropped n),
      ),
      omega arith,
    )

-- a value isn't read of no bytes
pub Completes-some : {B : Type 0} (old : Machine B) (bytes : List ℕ) (new : Machine B) (n : ℕ) (v : Value)
    → Completes old bytes new n v → 0 < length bytes
Completes-some old [] new n v d = absurd
    (let e : incomplete ≡ got v (drop n [] ++ []) = sym (resume-nothing old) ∙ d.same [] in cc)
Completes-some old (b ∷ bytes) new n v d = omega arith

-- The bytes examined pay for the iterations.
use Rattle.std.proofs.Common.{◌≡◌, ℕ, ◌+◌, ◌-◌, ◌*◌, ◌≤◌, List, ap, arith, refl, Some, None, Ok}
use Rattle.resp_value.specs.declared.value.Value.{Value}
use Rattle.resp_parse.specs.declared.machine.Machine.{Machine}
use Rattle.resp_parse.specs.Counts.{Counts}
use Rattle.resp_parse.specs.declared.machine.Step.TheVariants as step
use Rattle.resp_parse.specs.Built.{built}
use Rattle.resp_parse.specs.Costs.{least_bytes, BuiltWithin, StepBuiltWithin, prepaid, potential, LooksAt, Places}
use Rattle.resp_parse.specs.Costs.{Looks, StepCost, CostSoFar, Spent}
use Rattle.resp_parse.proofs.SameCounts.{SameButIterations, SameButExamined, examined-iterations, examined-looks}
use Rattle.resp_parse.proofs.SameCounts.{examined-take, examined-both}

-- a header of len + 3 bytes was looked at, of which some had been before, and begun
module _ {B : Type 0} (m new : Machine B) (c d e f : Counts) (len looked : ℕ) (bytes : List ℕ)
    (looked_is : looked ≡ m.scanned - 1) (looks : LooksAt looked bytes c d (Some len))
    (take : e ≡ record d { examined = d.examined + (len + 3 - m.scanned) }) (begun : SameButIterations e f) where
  iterations-looked : e.iterations ≡ d.iterations
  iterations-looked = ap (λ (t : Counts). t.iterations) take

  examined-now : f.examined + m.scanned ≡ c.examined + (len + 3)
  examined-now =
      let a : f.examined ≡ e.examined = ap (λ (t : Counts). t.examined) begun in
      let b : e.examined ≡ d.examined + (len + 3 - m.scanned) = ap (λ (t : Counts). t.examined) take in
      let g : d.examined ≡ c.examined = ap (λ (t : Counts). t.examined) looks.0.same in
      let l : looked ≤ len + 1 = looks.2 in
      omega (arith, a, b, g, l, looked_is)

  same : SameButExamined c f
  same = examined-both c d f (examined-looks c d looks.0.same)
      (examined-both d e f (examined-take d e (len + 3 - m.scanned) take) (examined-iterations e f begun))

  once : f.looks + c.examined ≤ c.looks + f.examined
  once =
      let a : f.looks ≡ e.looks = ap (λ (t : Counts). t.looks) begun in
      let b : e.looks ≡ d.looks = ap (λ (t : Counts). t.looks) take in
      let g : d.iterations + c.looks ≡ c.iterations + d.looks = looks.0.each in
      let l : d.iterations + (looked - 1) ≤ c.iterations + len + 1 = looks.1 in
      omega (arith, a, b, g, l, looked_is, examined-now)

  pub header-looks : new.scanned ≡ 0 → Looks m new c f (len + 3)
  header-looks z = record { same = same; once = once; examined = omega (arith, examined-now, z) }

  -- of one iteration for a value none is kept, or it is
  pub header-cost : (kept : ℕ) → f.iterations + prepaid new + kept ≤ e.iterations + prepaid m + 1 → new.scanned ≡ 0 →
      f.iterations + potential new + c.examined + kept + 1 ≤ c.iterations + potential m + f.examined
  header-cost kept p z =
      let l : d.iterations + (looked - 1) ≤ c.iterations + len + 1 = looks.1 in
      omega (arith, p, z, l, looked_is, iterations-looked, examined-now)

pub CostSoFar-start : {B : Type 0} (m : Machine B) (c : Counts) → CostSoFar m m c c 0
CostSoFar-start m c = record {
  looks = record { same = refl; once = omega arith; examined = omega arith };
  cost = omega arith;
  built_within =
      omega arith;
}

module _ {B : Type 0} (old m : Machine B) (c d : Counts) (at : ℕ) (h : CostSoFar old m c d at) where
  looks-on : (new : Machine B) (e : Counts) (n : ℕ) → Looks m new d e n → Looks old new c e (at + n)
  looks-on new e n l = record {
    same = examined-both c d e h.looks.same l.same;
    once = omega (arith, h.looks.once, l.once);
    examined = omega
        (arith, h.looks.examined, l.examined);
  }

  -- what a step looked at, counted with its own iteration
  of-step : (new : Machine B) (e : Counts) (n : ℕ) → Looks m new (record d { iterations = d.iterations + 1 }) e n
      → Looks m new d e n
  of-step new e n l = record { same = l.same; once = l.once; examined = l.examined }

  pub CostSoFar-end : (bytes : List ℕ) → Spent old m c d at
  CostSoFar-end bytes = (h.looks, omega (arith, h.cost))

  pub CostSoFar-waits : (new : Machine B) (e : Counts) (rest bytes : List ℕ) (n : ℕ)
      → StepCost m new rest d e (Ok (step.Waits n)) → Spent old new c e (at + n)
  CostSoFar-waits new e rest bytes n s = (looks-on new e n (of-step new e n s.0), omega (arith, h.cost, s.1))

  pub CostSoFar-goes : (new : Machine B) (e : Counts) (rest : List ℕ) (n : ℕ)
      → StepCost m new rest d e (Ok (step.Goes n)) → StepBuiltWithin m new (Ok (step.Goes n))
      → CostSoFar old new c e (at + n)
  CostSoFar-goes new e rest n s w = record {
    looks = looks-on new e n (of-step new e n s.0);
    cost = omega (arith, h.cost, s.1);
    built_within = omega
        (arith, h.built_within, w);
  }

  -- and the machine took more
  pub CostSoFar-further : (new : Machine B) (e : Counts) (n : ℕ) → CostSoFar m new d e n → CostSoFar old new c e (at + n)
  CostSoFar-further new e n k = record {
    looks = looks-on new e n k.looks;
    cost = omega (arith, h.cost, k.cost);
    built_within = omega
        (arith, h.built_within, k.built_within);
  }

  -- a value is whole, and was put where it belongs
  module _ (mid new : Machine B) (e f : Counts) (rest : List ℕ) (n : ℕ) (v : Value)
      (s : StepCost m mid rest d e (Ok (step.Whole n v))) (w : StepBuiltWithin m mid (Ok (step.Whole n v)))
      (iterations : SameButIterations e f) where
    examined-same : f.examined ≡ e.examined
    examined-same = ap (λ (t : Counts). t.examined) iterations

    once-attached : f.looks + c.examined ≤ c.looks + f.examined
    once-attached =
        let looks-same : f.looks ≡ e.looks = ap (λ (t : Counts). t.looks) iterations in
        omega (arith, h.looks.once, s.0.once, examined-same, looks-same)

    looks-attached : new.scanned ≡ mid.scanned → Looks old new c f (at + n)
    looks-attached z = record {
      same = examined-both c d f h.looks.same (examined-both d e f s.0.same (examined-iterations e f iterations));
      once = once-attached;
      examined = omega (arith, h.looks.examined, s.0.examined, examined-same, z);
    }

    pub CostSoFar-attaches : Places {X = Unit {0}} mid new e f (Ok tt)
        → BuiltWithin new (least_bytes mid + 3 * built v) (Ok None) → new.scanned ≡ mid.scanned
        → CostSoFar old new c f (at + n)
    CostSoFar-attaches p k z = record {
      looks = looks-attached z;
      cost = omega (arith, h.cost, s.1, p, examined-same, z);
      built_within = omega
          (arith, h.built_within, w, k);
    }

    pub CostSoFar-reads : (u : Value) (bytes : List ℕ) → Places {X = Unit {0}} mid new e f (Ok tt) → new.scanned
        ≡ mid.scanned → Spent old new c f (at + n)
    CostSoFar-reads u bytes p z = (looks-attached z, omega (arith, h.cost, s.1, p, examined-same, z))

    pub CostSoFar-built_within : (u : Value) → BuiltWithin new (least_bytes mid + 3 * built v) (Ok (Some u))
        → least_bytes new + 3 * built u ≤ least_bytes old + (at + n)
    CostSoFar-built_within u k = omega (arith, h.built_within, w, k)

-- a call was counted as well
pub Spent-called : {B : Type 0} (old new : Machine B) (c d : Counts) (n : ℕ) → Spent old new c d n
    → Spent old new (record c { calls = c.calls + 1 }) (record d { calls = d.calls + 1 }) n
Spent-called old new c d n p = (
  record {
    same = ap (λ (t : Counts). record t { calls = t.calls + 1 }) p.0.same;
    once = p.0.once;
    examined = p.0.examined;
  },
  p.1,
)

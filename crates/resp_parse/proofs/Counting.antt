-- What a parser has counted, from call to call.
use Rattle.std.proofs.Common.{◌≡◌, ℕ, ◌+◌, ◌-◌, ◌≤◌, Bool, true, false, List, [], length, drop, refl, ap, ◌∙◌, arith}
use Rattle.std.proofs.Common.{Option, Some, None}
use Rattle.std.proofs.lemmas.Grind.{common_steps}
use Rattle.std.proofs.lemmas.List.{length-append}
use Rattle.resp_parse.specs.declared.body.Body.{Body}
use Rattle.resp_parse.specs.declared.decoder.Decoder.TheInside.{Inside}
use Rattle.resp_parse.specs.declared.machine.Machine.{Machine}
use Rattle.resp_parse.specs.Counts.{Counts, nothing_done}
use Rattle.resp_parse.specs.State.{State}
use Rattle.resp_parse.specs.Bounds.{Bounded, OneCall}
use Rattle.resp_parse.specs.Building.{Stands}
use Rattle.resp_parse.specs.Resume.{fresh_of, IsScanned}
use Rattle.resp_parse.specs.Costs.{PaidFor, potential, Spent, SpentAtStop}
use Rattle.resp_parse.specs.Invariant.{Invariant, Counted, Holds, CountsTaken, limits_of}
use Rattle.resp_parse.proofs.Holding.{nothing_open}

-- what a call began with, t, of what was counted before it, c, and what it came to, e
record Begun (c t e : Counts) : Type 0 where
  iterations : t.iterations ≡ c.iterations
  looks : t.looks ≡ c.looks
  examined : t.examined ≡ c.examined
  received : e.received ≡ c.received
  calls : e.calls ≡ c.calls + 1

begun : (c t e : Counts) → t ≡ record c { calls = c.calls + 1 } → e
    ≡ record t { iterations = e.iterations; looks = e.looks; examined = e.examined } → Begun c t e
begun c t e i s =
    let received : t.received ≡ c.received = ap (λ (x : Counts). x.received) i in
    let calls : t.calls ≡ c.calls + 1 = ap (λ (x : Counts). x.calls) i in
    let received' : e.received ≡ t.received = ap (λ (x : Counts). x.received) s in
    let calls' : e.calls ≡ t.calls = ap (λ (x : Counts). x.calls) s in
    record {
      iterations = ap (λ (x : Counts). x.iterations) i;
      looks = ap (λ (x : Counts). x.looks) i;
      examined = ap (λ (x : Counts). x.examined) i;
      received = omega (arith, received, received');
      calls = omega (arith, calls, calls');
    }

-- a call was counted, and the machine went on
module _ {B : Type 0} (m new : Machine B) (u : List ℕ) (c t e : Counts) (failed : Bool) where
  pub Counted-taken : (n : ℕ) → n ≤ length u → new.scanned ≤ length (drop n u) → Counted m u c failed → failed ≡ false
      → t ≡ record c { calls = c.calls + 1 } → Spent m new t e n → Counted new (drop n u) e failed
  Counted-taken n l s k w i p =
      let b = k.works w in
      let g = begun c t e i p.0.same in
      let r : length (drop n u) ≡ length u - n = grind (arith, common_steps) in
      record {
        iterations = omega (arith, b.cost, p.1, g.iterations, g.examined, g.calls);
        looks = omega (arith, k.looks, p.0.once, g.looks, g.examined);
        examined = omega (arith, b.accounted, p.0.examined, g.examined, g.received, l, r, s);
        works = λ _. record {
          cost = omega (arith, b.cost, p.1, g.iterations, g.examined, g.calls);
          accounted = omega
              (arith, b.accounted, p.0.examined, g.examined, g.received, l, r);
        };
      }

  pub Counted-stopped : Counted m u c failed → failed ≡ false → t ≡ record c { calls = c.calls + 1 }
      → SpentAtStop m u t e → (v : List ℕ) → Counted new v e true
  Counted-stopped k w i p v =
      let b = k.works w in
      let g = begun c t e i p.0.same in
      record {
        iterations = omega (arith, b.cost, p.1, g.iterations, g.examined, g.calls);
        looks = omega (arith, k.looks, p.0.once, g.looks, g.examined);
        examined = omega (arith, b.accounted, p.0.most, g.examined, g.received);
        works = λ z. absurd (let y : true ≡ false = z in cc);
      }

potential-fresh : {B : Type 0} (m : Machine B) → fresh_of m.body m.open_aggregates ≡ true → m.scanned ≡ 0 → potential m
    ≡ 0
potential-fresh m f s = let n = nothing_open m.body m.open_aggregates f in rw (n.no_body, n.no_frame, s) (omega arith)

pub depth-fresh : {B : Type 0} (m : Machine B) → fresh_of m.body m.open_aggregates ≡ true
    → length m.open_aggregates ≤ m.depth
depth-fresh m f = let n = nothing_open m.body m.open_aggregates f in rw n.no_frame (omega arith)

-- nothing was done
pub Counted-new : {B : Type 0} (m : Machine B) (u : List ℕ) (c : Counts) → c ≡ nothing_done
    → fresh_of m.body m.open_aggregates ≡ true → m.scanned ≡ 0 → u ≡ [] → Counted m u c false
Counted-new m u c e f s n = rw (e, n)
    (record {
      iterations = omega arith;
      looks = omega arith;
      examined = omega arith;
      works = λ _. record
          { cost = omega (arith, potential-fresh m f s); accounted = omega (arith, s) };
    })

pub Counted-failing : {B : Type 0} (m : Machine B) (u : List ℕ) (c : Counts) (failed : Bool) → Counted m u c failed
    → Counted m u c true
Counted-failing m u c failed k = record {
  iterations = k.iterations;
  looks = k.looks;
  examined = k.examined;
  works = λ e. absurd
      (let z : true ≡ false = e in cc);
}

pub scanned-within : (b : Option Body) (n : ℕ) (u : List ℕ) → IsScanned b n u → n ≤ length u
scanned-within None n u h = h.within
scanned-within (Some b) n u h = omega (arith, h)

-- what is kept bounds what was done
pub Bounded-from_kept : {B : Type 0} {offset : Option ℕ} {aside size : ℕ} (most : ℕ) (m : Machine B) (u since : List ℕ)
    (failed : Bool) (c : Counts) (n : ℕ) → length m.open_aggregates ≤ m.depth → Holds m u since failed
    → Counted m u c failed → (failed ≡ false → CountsTaken most m u since n) → (values tokens : ℕ)
    → (failed ≡ false → PaidFor values tokens m.open_aggregates) →
    Bounded (record {
      limits = limits_of m most aside;
      unparsed = u;
      looked = m.scanned;
      since = since;
      value_len =
          size;
      failed = failed;
      fault_offset = offset;
      open_aggregates = length m.open_aggregates;
      values = values;
      tokens = tokens;
      counts = c;
    })
Bounded-from_kept most m u since failed c n l h k p values tokens o = record {
  iterations = omega (arith, k.iterations);
  looks = k.looks;
  examined = k.examined;
  open_aggregates = l;
  works = λ w.
      let b = k.works w in
      let r = h.resumes w in
      let s : m.scanned ≤ length u = scanned-within m.body m.scanned u r.scanned in
      let d : length (drop m.scanned u) ≡ length u - m.scanned = grind (arith, common_steps) in
      record {
        accounted = omega (arith, b.accounted, s, d);
        values = omega (arith, r.built_within, (o w).values, s, d);
        tokens = omega (arith, r.built_within, (o w).tokens, s, d);
        size = (let z = p w in
            let j : m.scanned ≤ length z.kept = scanned-within m.body m.scanned z.kept z.resumes.scanned in
            let x : length u ≡ length z.kept + length z.later = ap length z.unparsed_is
            ∙ length-append z.kept z.later in
            let y : length since ≡ length z.before + length z.later = ap length z.since_is
            ∙ length-append z.before z.later in
            omega (arith, z.few, j, x, y, s, d));
      };
}

-- the same of all that a parser keeps
pub bounded : {B R : Type 0} {S : Stands B} {p : Inside B R} → Invariant S p → (values tokens : ℕ)
    → (p.failed ≡ false → PaidFor values tokens p.machine.open_aggregates) →
    Bounded (record {
      limits = limits_of p.machine p.size_limit p.push_limit;
      unparsed = drop p.consumed p.buffer.items;
      looked = p.machine.scanned;
      since = p.since;
      value_len = p.value_len;
      failed = p.failed;
      fault_offset = p.fault_offset;
      open_aggregates = length p.machine.open_aggregates;
      values = values;
      tokens = tokens;
      counts = p.counts;
    })
bounded {B} {R} {S} {p} kept values tokens paid =
    Bounded-from_kept p.size_limit p.machine (drop p.consumed p.buffer.items) p.since p.failed p.counts p.taken
    kept.depth kept.holds kept.counted kept.taken values tokens paid

-- a value was asked for: one call at most, and no byte came
module _ (old new : State) (same : old.failed ≡ true → new ≡ old)
    (one : old.failed ≡ false → OneCall old.counts new.counts) where
  pub received-same : new.counts.received ≡ old.counts.received
  received-same = by_failed old.failed refl
    where
      by_failed : (f : Bool) → old.failed ≡ f → new.counts.received ≡ old.counts.received
      by_failed true e = ap (λ (s : State). s.counts.received) (same e)
      by_failed false e = (one e).received

  pub calls-most : new.counts.calls ≤ old.counts.calls + 1
  calls-most = by_failed old.failed refl
    where
      by_failed : (f : Bool) → old.failed ≡ f → new.counts.calls ≤ old.counts.calls + 1
      by_failed true e = omega (arith, ap (λ (s : State). s.counts.calls) (same e))
      by_failed false e = omega (arith, (one e).calls)

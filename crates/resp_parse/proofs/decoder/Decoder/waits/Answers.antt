use Rattle.std.proofs.Common.{◌≡◌, ◌≤◌, ◌+◌, ◌-◌, length, take, drop, false, refl, ap, sym, ◌∙◌, subst}
use Rattle.std.proofs.Common.{arith}
use Rattle.resp_parse.specs.declared.machine.Machine.{Machine}
use Rattle.resp_parse.specs.State.{State}
use Rattle.resp_parse.specs.Counts.{Counts}
use Rattle.resp_parse.specs.Costs.{least_bytes, Spent}
use Rattle.resp_parse.specs.Building.{progress_of}
use Rattle.resp_parse.specs.Limits.{AreLimits}
use Rattle.resp_parse.specs.Invariant.{limits_of, Resumes, Holds, Counted, CountsTaken}
use Rattle.resp_parse.proofs.AmortisedCost.{Spent-called}
use Rattle.resp_parse.proofs.Counting.{bounded, Counted-taken, scanned-within}
use Rattle.resp_parse.proofs.CountingTaken.{CountsTaken-waits, within-limit}
use Rattle.resp_parse.proofs.FaultOffsets.{Placed-working}
use Rattle.resp_parse.proofs.Holding.{Holds-working, Resumes-waits}
use Rattle.resp_parse.proofs.ParserStates.{StandsAfter-since}
use Rattle.resp_parse.proofs.Taking.{all_from, not_parted, waits-takes}
use Rattle.resp_parse.proofs.decoder.Decoder.waits.Goals as goal

pub invariant_of-self : goal.invariant_of-self
invariant_of-self g c =
    let same = c.looks_on.ensures.nothing c.if-not-looks_on.true in
    rw (same.0, same.1) c.self.invariant

pub invariant_of-self-2 : goal.invariant_of-self-2
invariant_of-self-2 g c =
    let p = c.self.inside in
    let kept = c.self.invariant in
    let m = c.looks_on.new.self in
    let looked = sym c.looks_on.ensures.looked in
    let w : p.failed ≡ false = ap (λ (s : State). s.failed) c.self.view_is ∙ c.requires.works in
    let u = take (length c.deref.result.now - p.consumed) (drop p.consumed c.deref.result.now) in
    let f = all_from p.consumed c.deref.result.now p.buffer.items c.deref.ensures.value in
    let d = c.looks_on.ensures.waits c.if-not-looks_on.false in
    let depth : m.depth ≡ p.machine.depth = ap (λ (x : Machine _). x.depth) c.looks_on.ensures.looked in
    let as_many : least_bytes m ≤ least_bytes p.machine + 0 = omega (arith, ap least_bytes c.looks_on.ensures.looked) in
    let resumes : Resumes p.machine u p.since = subst (λ x. Resumes p.machine x p.since) (sym f) (kept.holds.resumes w) in
    let spelled = kept.taken w in
    let sizes : p.taken + length u ≡ length p.since = ap (λ x. p.taken + length x) f ∙ spelled.counted in
    let within : p.taken ≤ p.size_limit = within-limit p.size_limit p.machine (drop p.consumed p.buffer.items) p.since
    p.taken spelled in
    let few : length p.since ≤ p.size_limit = omega (arith, sizes, within, c.if-unparsed-self.false) in
    let none : p.taken + 0 ≡ p.taken = omega arith in
    record {
      consumed = kept.consumed;
      limits = subst (λ (x : Machine _). AreLimits (limits_of x p.size_limit p.push_limit)) looked kept.limits;
      depth = subst (λ (x : Machine _). length x.open_aggregates ≤ x.depth) looked kept.depth;
      holds = subst (λ x. Holds m x p.since p.failed) f
          (Holds-working m u p.since p.failed (Resumes-waits p.machine m u p.since resumes 0 d depth as_many));
      counted = subst (λ x. Counted m x c.call.new.self p.failed) f
          (Counted-taken p.machine m u p.counts (record p.counts { calls = p.counts.calls + 1 }) c.call.new.self p.failed
          0 d.within (scanned-within m.body m.scanned u d.scanned)
          (subst (λ x. Counted p.machine x p.counts p.failed) (sym f) kept.counted) w refl
          (subst (λ (k : Counts). Spent p.machine m (record p.counts { calls = p.counts.calls + 1 }) k 0)
          (sym c.call.ensures)
          (Spent-called p.machine m p.counts c.looks_on.new.counts 0 (c.looks_on.ensures.spent c.if-not-looks_on.false))));
      taken = λ _. subst (λ n. CountsTaken p.size_limit m (drop p.consumed p.buffer.items) p.since n) none
          (subst (λ x. CountsTaken p.size_limit m x p.since (p.taken + 0)) f
          (CountsTaken-waits p.size_limit p.machine m u p.since p.taken 0 resumes sizes few d depth as_many));
      builds = λ _. subst (λ (x : Machine _). g.B.Builder.stands x.builder x.open_aggregates (progress_of x.body)) looked
          (kept.builds w);
      placed = Placed-working (limits_of p.machine p.size_limit p.push_limit) (limits_of m p.size_limit p.push_limit)
          p.fault_offset p.since p.since p.failed w kept.placed;
    }

pub returns-clause-takes : goal.returns-clause-takes
returns-clause-takes g c = λ b h _.
    let p = c.self.inside in
    let works = ap (λ (s : State). s.failed) c.self.view_is ∙ c.requires.works in
    let parted = not_parted p c.deref.result.now works c.deref.ensures.value (omega (arith, c.if-unparsed-self.false)) in
    waits-takes c.self.invariant parted c.looks_on.new.self (ap (λ (x : Machine _). x.depth) c.looks_on.ensures.looked) 0 refl
    (c.looks_on.ensures.waits c.if-not-looks_on.false) _ refl refl refl b
    (StandsAfter-since c.args.self.now b h ∙ sym (ap (λ (s : State). s.since) c.self.view_is))

pub returns-clause-bounds : goal.returns-clause-bounds
returns-clause-bounds g c =
    let kept = invariant_of-self-2 g c in bounded kept _ _ (λ w. g.met.B.Builder.paid_for _ _ _ (kept.builds w))

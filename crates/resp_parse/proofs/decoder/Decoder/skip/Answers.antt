use Rattle.std.proofs.Common.{◌≡◌, ◌≤◌, ◌+◌, ℕ, length, drop, false, ap, sym, ◌∙◌, subst, arith}
use Rattle.std.proofs.lemmas.Grind.{common_steps}
use Rattle.resp_parse.specs.State.{State}
use Rattle.resp_parse.specs.Invariant.{limits_of}
use Rattle.resp_parse.proofs.BodiesInPieces.{drop-drop}
use Rattle.resp_parse.proofs.Counting.{bounded}
use Rattle.resp_parse.proofs.FaultOffsets.{Placed-working}
use Rattle.resp_parse.proofs.ParserStates.{StandsAfter-works, IsBetweenValues-same, IsBetweenValues-from_same}
use Rattle.resp_parse.proofs.Skipping.{fresh-between, holds-skipped, counted-skipped, taken-skipped}
use Rattle.resp_parse.proofs.Taking.{all_from}
use Rattle.resp_parse.proofs.decoder.Decoder.skip.Goals as goal

pub invariant_of-self : goal.invariant_of-self
invariant_of-self g c =
    let p = c.self.inside in
    let kept = c.self.invariant in
    let n = c.args.n in
    let u = drop p.consumed p.buffer.items in
    let at : ℕ = p.consumed + n in
    let w : p.failed ≡ false = ap (λ (s : State). s.failed) c.self.view_is
    ∙ StandsAfter-works c.args.self.now _ c.requires.rest.stands in
    let e : p.since ≡ u = ap (λ (s : State). s.since) c.self.view_is
    ∙ IsBetweenValues-same c.args.self.now c.requires.rest ∙ sym (ap (λ (s : State). s.unparsed) c.self.view_is) in
    let within : n ≤ length u = subst (λ x. n ≤ length x) (sym (ap (λ (s : State). s.unparsed) c.self.view_is))
    c.requires.within in
    let h = kept.holds.resumes w in
    let fresh = fresh-between p.machine u p.since h e in
    let k = c.saturating_sub-self-inside.result in
    let dropped : drop n u ≡ drop at p.buffer.items = drop-drop p.consumed n p.buffer.items in
    let rest = all_from at c.deref.result.now p.buffer.items c.deref.ensures.value in
    let now : c.restart.new.self ≡ drop n u = c.restart.ensures ∙ rest ∙ sym dropped in
    record {
      consumed = (let f : p.consumed ≤ length p.buffer.items = kept.consumed in grind (arith, common_steps, f, within));
      limits = kept.limits;
      depth = kept.depth;
      holds = holds-skipped p.machine n k c.saturating_sub-self-inside.ensures fresh u p.since _ _ p.failed
          (sym dropped) now w kept.holds;
      counted = counted-skipped p.machine n k c.saturating_sub-self-inside.ensures fresh u _ p.failed p.counts
          c.examine.new.self (sym dropped) within w h.scanned kept.counted
          (c.examine.ensures ∙ ap (λ (j : ℕ). record p.counts { examined = p.counts.examined + j })
          c.saturating_sub.ensures);
      taken = λ _. taken-skipped p.machine n k c.saturating_sub-self-inside.ensures fresh p.size_limit u p.since _ _
          p.taken (sym dropped) now e (kept.taken w);
      builds = kept.builds;
      placed = Placed-working (limits_of p.machine p.size_limit p.push_limit)
          (limits_of p.machine p.size_limit p.push_limit) p.fault_offset p.since c.restart.new.self p.failed w
          kept.placed;
    }

pub returns-clause-rest : goal.returns-clause-rest
returns-clause-rest g c =
    let p = c.self.inside in
    let at : ℕ = p.consumed + c.args.n in
    let w : p.failed ≡ false = ap (λ (s : State). s.failed) c.self.view_is
    ∙ StandsAfter-works c.args.self.now _ c.requires.rest.stands in
    let rest = all_from at c.deref.result.now p.buffer.items c.deref.ensures.value in
    IsBetweenValues-from_same _ w (c.restart.ensures ∙ rest)

pub returns-clause-bounds : goal.returns-clause-bounds
returns-clause-bounds g c =
    let kept = invariant_of-self g c in bounded kept _ _ (λ w. g.met.B.Builder.paid_for _ _ _ (kept.builds w))

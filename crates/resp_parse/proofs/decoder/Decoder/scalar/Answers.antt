use Rattle.std.proofs.Common.{◌≡◌, ◌+◌, refl, ap, sym, ◌∙◌, subst, arith}
use Rattle.resp_parse.specs.State.{State}
use Rattle.resp_parse.specs.Counts.{Counts}
use Rattle.resp_parse.specs.Costs.{Spent}
use Rattle.resp_parse.proofs.Counting.{bounded}
use Rattle.resp_parse.proofs.ParserStates.{StandsAfter-since}
use Rattle.resp_parse.proofs.Taking.{all_from, not_parted, value-kept, value-takes}
use Rattle.resp_parse.proofs.decoder.Decoder.scalar.Goals as goal

pub invariant_of-self : goal.invariant_of-self
invariant_of-self g c =
    let p = c.self.inside in
    let kept = c.self.invariant in
    let n = c.in_ok-taken.taken in
    let works = ap (λ (s : State). s.failed) c.self.view_is ∙ c.requires.works in
    let parted = not_parted p c.deref.result.now works c.deref.ensures.value (omega (arith, c.if-unparsed-room.false)) in
    let rest = all_from (p.consumed + n) c.deref-2.result.now p.buffer.items c.deref-2.ensures.value in
    let t : Counts = record p.counts { calls = p.counts.calls + 1 } in
    let counts : c.examine.new.self ≡ record t { iterations = t.iterations + 1 + 1; examined = t.examined + n } =
    c.examine.ensures ∙ ap (λ (k : Counts). record k { examined = k.examined + n })
    (c.iterate-2.ensures ∙ ap (λ (k : Counts). record k { iterations = k.iterations + 1 })
    (c.iterate.ensures ∙ ap (λ (k : Counts). record k { iterations = k.iterations + 1 }) c.call.ensures)) in
    let spent : Spent p.machine p.machine t c.examine.new.self n = subst (λ k. Spent p.machine p.machine t k n)
    (sym counts) (
      record { same = refl; once = omega arith; examined = omega arith },
      omega (arith, c.in_ok-taken.ensures.some),
    ) in
    value-kept kept parted p.machine refl n c.in_ok-taken.value c.in_ok-taken.ensures.completes
    c.restart.new.self (c.restart.ensures ∙ rest) t c.examine.new.self refl spent kept.depth (kept.builds works)

pub returns-clause-takes : goal.returns-clause-takes
returns-clause-takes g c = λ b h.
    let p = c.self.inside in
    let n = c.in_ok-taken.taken in
    let works = ap (λ (s : State). s.failed) c.self.view_is ∙ c.requires.works in
    let parted = not_parted p c.deref.result.now works c.deref.ensures.value (omega (arith, c.if-unparsed-room.false)) in
    let rest = all_from (p.consumed + n) c.deref-2.result.now p.buffer.items c.deref-2.ensures.value in
    value-takes c.self.invariant parted p.machine refl n c.in_ok-taken.value c.in_ok-taken.ensures.completes
    c.restart.new.self (c.restart.ensures ∙ rest) _ refl refl refl refl refl b
    (StandsAfter-since c.args.self.now b h ∙ sym (ap (λ (s : State). s.since) c.self.view_is))

pub returns-clause-bounds : goal.returns-clause-bounds
returns-clause-bounds g c =
    let kept = invariant_of-self g c in bounded kept _ _ (λ w. g.met.B.Builder.paid_for _ _ _ (kept.builds w))

use Rattle.std.proofs.Common.{subst, ◌≡◌, ◌+◌, ◌++◌, inl, inr, length, false, ap, refl, sym, ◌∙◌, arith}
use Rattle.std.proofs.lemmas.Bool.Decides.{nat_tests}
use Rattle.std.proofs.lemmas.List.{length-take}
use Rattle.resp_parse.specs.State.{State}
use Rattle.resp_parse.specs.Counts.{Counts}
use Rattle.resp_parse.specs.Invariant.{Invariant}
use Rattle.resp_parse.proofs.ParserStates.{StandsAfter-not_failed, StandsAfter-fed, IsBetweenValues-from_same}
use Rattle.resp_parse.proofs.ParserStates.{IsBetweenValues-same}
use Rattle.resp_parse.proofs.BodiesInPieces.{drop-all}
use Rattle.resp_parse.proofs.Counting.{bounded}
use Rattle.resp_parse.proofs.Feeding.{came-cut, fed-kept, fed-rests, few-taken}
use Rattle.resp_parse.proofs.SameMachine.{Invariant-same, Invariant-roomier}
use Rattle.resp_parse.proofs.decoder.Decoder.feed.Goals as goal
use Rattle.resp_parse.proofs.decoder.Decoder.feed.Goals.{then-taken_all, else-taken_all}

pub returns-then-self-clause-feeds : goal.returns-then-self-clause-feeds
returns-then-self-clause-feeds g c = λ b h. absurd
    (StandsAfter-not_failed c.args.self.now b h (sym (ap (λ (s : State). s.failed) c.self.view_is) ∙ c.if-self.true))

pub returns-in_err-reserve-clause-bounds : goal.returns-in_err-reserve-clause-bounds
returns-in_err-reserve-clause-bounds g c =
    let kept = c.self-2.invariant in
    rw c.in_err-reserve.ensures.items (bounded kept _ _ (λ w. g.met.B.Builder.paid_for _ _ _ (kept.builds w)))

pub returns-in_err-fill-clause-bounds : goal.returns-in_err-fill-clause-bounds
returns-in_err-fill-clause-bounds g c =
    let kept = c.self-2.invariant in
    rw (
      c.in_err-fill.ensures.values,
      c.in_err-fill.ensures.tokens,
      c.in_ok-reserve.ensures.items,
      c.in_err-fill.ensures.fills.0,
      c.in_err-fill.ensures.fills.1,
    )
    (bounded kept _ _ (λ w. g.met.B.Builder.paid_for _ _ _ (kept.builds w)))

pub invariant_of-self-2 : goal.invariant_of-self-2
invariant_of-self-2 g c =
    let p = c.self-2.inside in
    let kept = c.self-2.invariant in
    let works : p.failed ≡ false = ap (λ (s : State). s.failed)
    (c.self-2.view_is ∙ c.compact.ensures.same ∙ sym c.self.view_is) ∙ c.if-self.false in
    let few = few-taken kept works in
    let size = length-take c.min-2.result c.args.bytes.now in
    let came = came-cut {p = p} c.min-2.result c.split_at.ensures.front c.split_at.ensures.back
    (elim c.if-taken_all.branch [
      | then-taken_all u ↦ inl
          (drop-all p.consumed p.buffer.items (grind (arith, nat_tests, u.if-taken_all.true, c.len.ensures)))
      | else-taken_all u ↦ inr (omega (arith, c.min.ensures, c.min-2.ensures, u.lacking-is))
    ]) refl (omega (arith, few, size, ap length c.split_at.ensures.front, c.min.ensures, c.min-2.ensures)) in
    fed-kept 1 c.fill.new.counts c.receive.new.self c.extend_from_slice.new.self kept works came
    c.in_ok-fill.ensures.fills
    (c.in_ok-extend_from_slice.ensures.items ∙ ap (λ x. x ++ c.split_at.result.1.now) c.in_ok-reserve.ensures.items)
    c.append.ensures
    (c.receive.ensures ∙ ap (λ (t : Counts). record t { received = t.received + length c.args.bytes.now })
    c.call.ensures) (c.in_ok-fill.ensures.builds (kept.builds works))

pub returns-clause-bounds : goal.returns-clause-bounds
returns-clause-bounds g c =
    let kept = invariant_of-self-2 g c in bounded kept _ _ (λ w. g.met.B.Builder.paid_for _ _ _ (kept.builds w))

pub returns-clause-feeds : goal.returns-clause-feeds
returns-clause-feeds g c = λ b h.
    let e = c.self-2.view_is ∙ c.compact.ensures.same in
    StandsAfter-fed c.args.self.now _ b c.args.bytes.now h (ap (λ (s : State). s.failed) e)
    (c.append.ensures ∙ ap (λ (s : State). s.since ++ c.args.bytes.now) e)

pub returns-clause-rest : goal.returns-clause-rest
returns-clause-rest g c = λ h.
    let p = c.self-2.inside in
    let kept = c.self-2.invariant in
    let e = c.self-2.view_is ∙ c.compact.ensures.same in
    let works : p.failed ≡ false = ap (λ (s : State). s.failed) (e ∙ sym c.self.view_is) ∙ c.if-self.false in
    let few = few-taken kept works in
    let size = length-take c.min-2.result c.args.bytes.now in
    let came = came-cut {p = p} c.min-2.result c.split_at.ensures.front c.split_at.ensures.back
    (elim c.if-taken_all.branch [
      | then-taken_all u ↦ inl
          (drop-all p.consumed p.buffer.items (grind (arith, nat_tests, u.if-taken_all.true, c.len.ensures)))
      | else-taken_all u ↦ inr (omega (arith, c.min.ensures, c.min-2.ensures, u.lacking-is))
    ]) refl (omega (arith, few, size, ap length c.split_at.ensures.front, c.min.ensures, c.min-2.ensures)) in
    IsBetweenValues-from_same _ works
    (fed-rests 1 c.fill.new.counts c.receive.new.self c.extend_from_slice.new.self kept works came
    c.in_ok-fill.ensures.fills
    (c.in_ok-extend_from_slice.ensures.items ∙ ap (λ x. x ++ c.split_at.result.1.now) c.in_ok-reserve.ensures.items)
    c.append.ensures
    (c.receive.ensures ∙ ap (λ (t : Counts). record t { received = t.received + length c.args.bytes.now })
    c.call.ensures)
    (ap (λ (s : State). s.since) e ∙ IsBetweenValues-same c.args.self.now h ∙ sym (ap (λ (s : State). s.unparsed) e)))

pub invariant_of-self-in_err-fill : goal.invariant_of-self-in_err-fill
invariant_of-self-in_err-fill g c =
    let p = c.self-2.inside in
    let fills = c.in_err-fill.ensures.fills in
    let h = Invariant-same g.B.Builder.stands p c.fill.new.self fills.0 c.in_err-fill.ensures.builds
    c.self-2.invariant in
    subst (λ (k : Counts). Invariant g.B.Builder.stands
    (record p { buffer = c.reserve.new.self; machine = c.fill.new.self; counts = k })) (sym fills.1)
    (Invariant-roomier g.B.Builder.stands (record p { machine = c.fill.new.self }) c.reserve.new.self
    c.in_ok-reserve.ensures.items h)

use Rattle.std.proofs.Common.{◌≡◌, ◌≤◌, ◌+◌, ◌-◌, ◌++◌, inl, inr, ℕ, length, take, drop, false, refl, ap, sym, ◌∙◌, arith}
use Rattle.std.proofs.lemmas.Bool.Decides.{nat_tests}
use Rattle.std.proofs.lemmas.Grind.{common_steps}
use Rattle.resp_parse.specs.State.{State}
use Rattle.resp_parse.specs.Counts.{Counts}
use Rattle.resp_parse.proofs.Asking.{Asks-out_of_memory, Asks-early_end, Asks-source_failed, Asks-filled, take-some}
use Rattle.resp_parse.proofs.BodiesInPieces.{drop-all}
use Rattle.resp_parse.proofs.Counting.{bounded}
use Rattle.resp_parse.proofs.Feeding.{came-cut, fed-kept, fed-rests, few-taken}
use Rattle.resp_parse.proofs.ParserStates.{StandsAfter-not_failed, IsBetweenValues-from_same, IsBetweenValues-same}
use Rattle.resp_parse.proofs.decoder.Decoder.ask.Goals as goal
use Rattle.resp_parse.proofs.decoder.Decoder.ask.Goals.{then-taken_all, else-taken_all}

-- bytes were received, by no call
received-now : (d : Counts) {e : Counts} {n m : ℕ} → e ≡ record d { received = d.received + n } → n ≡ m
    → e ≡ record d { received = d.received + m; calls = d.calls + 0 }
received-now d {e} {n} {m} is many =
    let none : d.calls ≡ d.calls + 0 = omega arith in
    is ∙ ap (λ (k : ℕ). record d { received = d.received + k }) many
    ∙ ap (λ (k : ℕ). record d { received = d.received + m; calls = k }) none

pub returns-then-self-clause-asks : goal.returns-then-self-clause-asks
returns-then-self-clause-asks g c = λ b h. absurd
    (StandsAfter-not_failed c.args.self.now b h (sym (ap (λ (s : State). s.failed) c.self.view_is) ∙ c.if-self.true))

pub returns-then-is_err-clause-asks : goal.returns-then-is_err-clause-asks
returns-then-is_err-clause-asks g c = λ b h.
    Asks-out_of_memory c.args.self.now _ b h refl
    (ap (λ (s : State). s.since) (c.self-2.view_is ∙ c.compact.ensures.same))
    (g.S.ReplySource.source c.args.source.now)

pub returns-in-Ok-eq0-clause-asks : goal.returns-in-Ok-eq0-clause-asks
returns-in-Ok-eq0-clause-asks g c = λ b h.
    Asks-early_end c.args.self.now _ b h refl (ap (λ (s : State). s.since) (c.self-2.view_is ∙ c.compact.ensures.same))
    (g.S.ReplySource.source c.args.source.now) (g.S.ReplySource.source c.fill.new.self) _ c.fill.new.buf
    c.in-Ok-eq0.field-0 c.in-Ok-eq0.field-0-test (grind (arith, common_steps)) c.in-Ok-eq0.ensures.fills

pub returns-in-Err-clause-asks : goal.returns-in-Err-clause-asks
returns-in-Err-clause-asks g c = λ b h.
    let e = c.self-2.view_is ∙ c.compact.ensures.same in
    rw c.from.ensures
    (Asks-source_failed c.args.self.now _ b h (ap (λ (s : State). s.failed) e) (ap (λ (s : State). s.since) e)
    (g.S.ReplySource.source c.args.source.now) (g.S.ReplySource.source c.fill.new.self) _ c.fill.new.buf c.in-Err.kind
    c.in-Err.ensures.fills)

pub returns-in_ok-extend_from_slice-in-Ok-clause-asks : goal.returns-in_ok-extend_from_slice-in-Ok-clause-asks
returns-in_ok-extend_from_slice-in-Ok-clause-asks g c = λ b h.
    let e = c.self-2.view_is ∙ c.compact.ensures.same in
    let came : c.deref.result.now ≡ c.fill.new.buf = grind (arith, common_steps) in
    let bytes = take c.in-Ok.n c.fill.new.buf in
    let l : length bytes ≡ c.in-Ok.n = grind (arith, common_steps) in
    let kept : c.fill_front-direct.new.counts.received
    ≡ c.self-2.inside.counts.received = ap (λ (t : Counts). t.received) c.fill_front-direct.ensures.fills.counts in
    Asks-filled c.args.self.now _ b h (ap (λ (s : State). s.failed) e)
    (g.S.ReplySource.source c.args.source.now) (g.S.ReplySource.source c.fill.new.self) _ c.fill.new.buf c.in-Ok.n
    (c.append.ensures ∙ ap (λ x. c.self-2.inside.since ++ take c.in-Ok.n x) came
    ∙ ap (λ (s : State). s.since ++ bytes) e)
    (ap (λ (t : Counts). t.received) c.receive.ensures ∙ ap (λ (k : ℕ). k + c.in-Ok.n) kept
    ∙ ap (λ (s : State). s.counts.received + c.in-Ok.n) e
    ∙ ap (λ (k : ℕ). c.args.self.now.counts.received + k) (sym l))
    c.in-Ok.ensures.fills (grind (arith, common_steps))
    (take-some c.in-Ok.n c.fill.new.buf c.in-Ok.n-test.1 (grind (arith, common_steps)))

pub invariant_of-self-in-Ok : goal.invariant_of-self-in-Ok
invariant_of-self-in-Ok g c =
    let p = c.self-2.inside in
    let kept = c.self-2.invariant in
    let n = c.fill_front-direct.result in
    let bytes = take c.in-Ok.n c.deref.result.now in
    let works : p.failed ≡ false = ap (λ (s : State). s.failed)
    (c.self-2.view_is ∙ c.compact.ensures.same ∙ sym c.self.view_is) ∙ c.if-self.false in
    let few = few-taken kept works in
    let room : n ≤ p.size_limit - p.taken = elim c.if-taken_all.branch [
      | then-taken_all u ↦ omega (arith, c.fill_front-direct.ensures.most, u.room-is)
      | else-taken_all u ↦ omega (arith, c.fill_front-direct.ensures.most, u.room-is)
    ] in
    let size : length (take n bytes) ≡ n = (let m : n ≤ length bytes = c.fill_front-direct.ensures.within in grind
    (arith, common_steps, m)) in
    let came = came-cut {p = p} {bytes = bytes} n refl refl
    (elim c.if-taken_all.branch [
      | then-taken_all u ↦ inl
          (drop-all p.consumed p.buffer.items
          (grind (arith, nat_tests, u.if-taken_all.true, c.len.ensures, c.make_room.ensures.same)))
      | else-taken_all u ↦ inr (omega (arith, c.fill_front-direct.ensures.most, u.room-is))
    ]) size (omega (arith, few, room)) in
    let held : c.extend_from_slice.new.self.items ≡ p.buffer.items ++ drop n bytes = grind (arith, common_steps) in
    let all : c.deref.result.now ≡ c.fill.new.buf = grind (arith, common_steps) in
    let many : length bytes ≡ c.in-Ok.n = grind (arith, common_steps, all) in
    let received = received-now c.fill_front-direct.new.counts (c.receive.ensures) (sym many) in
    fed-kept 0 c.fill_front-direct.new.counts c.receive.new.self c.extend_from_slice.new.self kept works came
    c.fill_front-direct.ensures.fills held c.append.ensures received
    (c.fill_front-direct.ensures.builds (kept.builds works))

pub returns-in_ok-extend_from_slice-in-Ok-clause-rest : goal.returns-in_ok-extend_from_slice-in-Ok-clause-rest
returns-in_ok-extend_from_slice-in-Ok-clause-rest g c = λ h.
    let p = c.self-2.inside in
    let kept = c.self-2.invariant in
    let n = c.fill_front-direct.result in
    let bytes = take c.in-Ok.n c.deref.result.now in
    let works : p.failed ≡ false = ap (λ (s : State). s.failed)
    (c.self-2.view_is ∙ c.compact.ensures.same ∙ sym c.self.view_is) ∙ c.if-self.false in
    let few = few-taken kept works in
    let room : n ≤ p.size_limit - p.taken = elim c.if-taken_all.branch [
      | then-taken_all u ↦ omega (arith, c.fill_front-direct.ensures.most, u.room-is)
      | else-taken_all u ↦ omega (arith, c.fill_front-direct.ensures.most, u.room-is)
    ] in
    let size : length (take n bytes) ≡ n = (let m : n ≤ length bytes = c.fill_front-direct.ensures.within in grind
    (arith, common_steps, m)) in
    let came = came-cut {p = p} {bytes = bytes} n refl refl
    (elim c.if-taken_all.branch [
      | then-taken_all u ↦ inl
          (drop-all p.consumed p.buffer.items
          (grind (arith, nat_tests, u.if-taken_all.true, c.len.ensures, c.make_room.ensures.same)))
      | else-taken_all u ↦ inr (omega (arith, c.fill_front-direct.ensures.most, u.room-is))
    ]) size (omega (arith, few, room)) in
    let held : c.extend_from_slice.new.self.items ≡ p.buffer.items ++ drop n bytes = grind (arith, common_steps) in
    let all : c.deref.result.now ≡ c.fill.new.buf = grind (arith, common_steps) in
    let many : length bytes ≡ c.in-Ok.n = grind (arith, common_steps, all) in
    let received = received-now c.fill_front-direct.new.counts (c.receive.ensures) (sym many) in
    let e = c.self-2.view_is ∙ c.compact.ensures.same in
    IsBetweenValues-from_same _ works
    (fed-rests 0 c.fill_front-direct.new.counts c.receive.new.self c.extend_from_slice.new.self kept works came
    c.fill_front-direct.ensures.fills held c.append.ensures received
    (ap (λ (s : State). s.since) e ∙ IsBetweenValues-same c.args.self.now h ∙ sym (ap (λ (s : State). s.unparsed) e)))

pub returns-in_ok-extend_from_slice-in-Ok-clause-bounds : goal.returns-in_ok-extend_from_slice-in-Ok-clause-bounds
returns-in_ok-extend_from_slice-in-Ok-clause-bounds g c =
    let kept = invariant_of-self-in-Ok g c in bounded kept _ _ (λ w. g.met.B.Builder.paid_for _ _ _ (kept.builds w))

pub returns-in-Err-clause-bounds : goal.returns-in-Err-clause-bounds
returns-in-Err-clause-bounds g c =
    let kept = c.self-2.invariant in
    rw c.make_room.ensures.same (bounded kept _ _ (λ w. g.met.B.Builder.paid_for _ _ _ (kept.builds w)))

-- there is room for the bytes
pub invariant_of-self-in_err-extend_from_slice-in-Ok : goal.invariant_of-self-in_err-extend_from_slice-in-Ok
invariant_of-self-in_err-extend_from_slice-in-Ok g c =
    let came : c.deref.result.now ≡ c.fill.new.buf = grind (arith, common_steps) in
    let few : length (drop c.fill_front-direct.result (take c.in-Ok.n c.deref.result.now)) ≤ 4096 = grind
    (arith, common_steps, came) in
    absurd (grind (
      arith,
      common_steps,
      few,
      c.in_err-extend_from_slice-in-Ok.ensures.full,
      c.make_room.ensures.room,
      c.if-is_err.ensures.value,
      c.if-is_err.ensures.negation,
    ))

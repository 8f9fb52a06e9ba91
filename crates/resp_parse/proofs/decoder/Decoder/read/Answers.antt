use Rattle.std.proofs.Common.{◌≡◌, ◌≢◌, ◌+◌, [], Ok, Err, refl, ap, sym, ◌∙◌, true, false, arith}
use Rattle.std.proofs.lemmas.Bool.Decides.{nat_tests}
use Rattle.std.proofs.lemmas.Grind.{common_steps}
use Rattle.resp_parse.specs.declared.read_error.ReadError.TheVariants as record_fault
use Rattle.resp_parse.specs.State.{State, refusal_of}
use Rattle.resp_parse.specs.Resume.{ReadsInto}
use Rattle.resp_parse.proofs.ParserStates.{StandsAfter-since}
use Rattle.resp_parse.proofs.Taking.{all_from, parted_at, scanned-front, waits-kept, waits-takes, value-kept, value-takes}
use Rattle.resp_parse.proofs.Taking.{long-kept, long-takes, memory-kept, fault-kept, stops-fault, stops-memory}
use Rattle.resp_parse.proofs.Counting.{bounded}
use Rattle.resp_parse.proofs.decoder.Decoder.read.Goals as goal

pub read-requires-clause-scanned : goal.read-requires-clause-scanned
read-requires-clause-scanned g c =
    let works = ap (λ (s : State). s.failed) c.self.view_is ∙ c.requires.works in
    let parted = parted_at c.self.inside c.deref.result.now works c.deref.ensures.value _ _ _ c.min.ensures
    c.split_at.ensures.front c.split_at.ensures.back in
    scanned-front c.self.invariant parted

-- a value was read

pub invariant_of-self : goal.invariant_of-self
invariant_of-self g c =
    let works = ap (λ (s : State). s.failed) c.self.view_is ∙ c.requires.works in
    let parted = parted_at c.self.inside c.deref.result.now works c.deref.ensures.value _ _ _ c.min.ensures
    c.split_at.ensures.front c.split_at.ensures.back in
    let got : ReadsInto g.B.Builder.shows c.self.inside.machine c.split_at.result.0.now c.read.new.self c.args.out.now
    c.read.new.out (Ok (c.in-Ok-default-true.taken, true)) = rw c.in-Ok-default-true.field-0-1-test at
    c.in-Ok-default-true.ensures.reads in
    let rest = all_from (c.self.inside.consumed + c.in-Ok-default-true.taken) c.deref-in-Ok-default-true.result.now
    c.self.inside.buffer.items c.deref-in-Ok-default-true.ensures.value in
    value-kept c.self.invariant parted c.read.new.self c.in-Ok-default-true.ensures.limit c.in-Ok-default-true.taken got.0 got.1.1
    c.restart.new.self (c.restart.ensures ∙ rest) c.call.new.self c.read.new.counts c.call.ensures
    c.in-Ok-default-true.ensures.cost c.in-Ok-default-true.ensures.depth c.in-Ok-default-true.ensures.builds

pub returns-in-Ok-default-true-clause-takes : goal.returns-in-Ok-default-true-clause-takes
returns-in-Ok-default-true-clause-takes g c = λ b h.
    let works = ap (λ (s : State). s.failed) c.self.view_is ∙ c.requires.works in
    let parted = parted_at c.self.inside c.deref.result.now works c.deref.ensures.value _ _ _ c.min.ensures
    c.split_at.ensures.front c.split_at.ensures.back in
    let got : ReadsInto g.B.Builder.shows c.self.inside.machine c.split_at.result.0.now c.read.new.self c.args.out.now
    c.read.new.out (Ok (c.in-Ok-default-true.taken, true)) = rw c.in-Ok-default-true.field-0-1-test at
    c.in-Ok-default-true.ensures.reads in
    let rest = all_from (c.self.inside.consumed + c.in-Ok-default-true.taken) c.deref-in-Ok-default-true.result.now
    c.self.inside.buffer.items c.deref-in-Ok-default-true.ensures.value in (
      got.0,
      (
        got.1.0,
        value-takes c.self.invariant parted c.read.new.self c.in-Ok-default-true.ensures.limit c.in-Ok-default-true.taken got.0 got.1.1
            c.restart.new.self (c.restart.ensures ∙ rest) _ refl refl refl refl refl b
            (StandsAfter-since c.args.self.now b h ∙ sym (ap (λ (s : State). s.since) c.self.view_is)),
      ),
    )

pub returns-in-Ok-default-true-clause-bounds : goal.returns-in-Ok-default-true-clause-bounds
returns-in-Ok-default-true-clause-bounds g c =
    let kept = invariant_of-self g c in bounded kept _ _ (λ w. g.met.B.Builder.paid_for _ _ _ (kept.builds w))

-- the value in progress passes its limit

pub invariant_of-self-then-passes : goal.invariant_of-self-then-passes
invariant_of-self-then-passes g c =
    let works = ap (λ (s : State). s.failed) c.self.view_is ∙ c.requires.works in
    let parted = parted_at c.self.inside c.deref.result.now works c.deref.ensures.value _ _ _ c.min.ensures
    c.split_at.ensures.front c.split_at.ensures.back in
    let got : ReadsInto g.B.Builder.shows c.self.inside.machine c.split_at.result.0.now c.read.new.self c.args.out.now
    c.read.new.out (Ok (c.in-Ok-default-false.taken, false)) = rw c.in-Ok-default-false.field-0-1-test at
    c.in-Ok-default-false.ensures.reads in
    let some : c.split_at.result.1.now ≢ [] = λ e. grind
    (arith, common_steps, nat_tests, c.is_empty-passes.ensures, c.if-passes.true, e) in
    long-kept c.self.invariant parted c.read.new.self c.in-Ok-default-false.ensures.limit c.in-Ok-default-false.taken some got.0
    c.call.new.self c.read.new.counts c.call.ensures c.in-Ok-default-false.ensures.cost
    c.in-Ok-default-false.ensures.depth (refusal_of c.too_long-why.result.0) c.too_long-why.result.1
    c.too_long-why.ensures.refuses

pub returns-then-passes-clause-takes : goal.returns-then-passes-clause-takes
returns-then-passes-clause-takes g c = λ b h.
    let works = ap (λ (s : State). s.failed) c.self.view_is ∙ c.requires.works in
    let parted = parted_at c.self.inside c.deref.result.now works c.deref.ensures.value _ _ _ c.min.ensures
    c.split_at.ensures.front c.split_at.ensures.back in
    let got : ReadsInto g.B.Builder.shows c.self.inside.machine c.split_at.result.0.now c.read.new.self c.args.out.now
    c.read.new.out (Ok (c.in-Ok-default-false.taken, false)) = rw c.in-Ok-default-false.field-0-1-test at
    c.in-Ok-default-false.ensures.reads in
    let some : c.split_at.result.1.now ≢ [] = λ e. grind
    (arith, common_steps, nat_tests, c.is_empty-passes.ensures, c.if-passes.true, e) in (
      long-takes c.self.invariant parted c.read.new.self c.in-Ok-default-false.ensures.limit c.in-Ok-default-false.taken some got.0 _
          (refusal_of c.too_long-why.result.0) c.too_long-why.result.1 refl refl refl c.too_long-why.ensures.refuses b
          (StandsAfter-since c.args.self.now b h ∙ sym (ap (λ (s : State). s.since) c.self.view_is)),
      got.1,
    )

pub returns-then-passes-clause-bounds : goal.returns-then-passes-clause-bounds
returns-then-passes-clause-bounds g c =
    let kept = invariant_of-self-then-passes g c in
    bounded kept _ _ (λ w. g.met.B.Builder.paid_for _ _ _ (kept.builds w))

-- more is awaited

pub invariant_of-self-in-Ok-default-false : goal.invariant_of-self-in-Ok-default-false
invariant_of-self-in-Ok-default-false g c =
    let works = ap (λ (s : State). s.failed) c.self.view_is ∙ c.requires.works in
    let parted = parted_at c.self.inside c.deref.result.now works c.deref.ensures.value _ _ _ c.min.ensures
    c.split_at.ensures.front c.split_at.ensures.back in
    let got : ReadsInto g.B.Builder.shows c.self.inside.machine c.split_at.result.0.now c.read.new.self c.args.out.now
    c.read.new.out (Ok (c.in-Ok-default-false.taken, false)) = rw c.in-Ok-default-false.field-0-1-test at
    c.in-Ok-default-false.ensures.reads in
    let none : c.split_at.result.1.now ≡ [] = grind
    (arith, common_steps, nat_tests, c.is_empty-passes.ensures, c.if-passes.false) in
    waits-kept c.self.invariant parted c.read.new.self c.in-Ok-default-false.ensures.limit c.in-Ok-default-false.taken none got.0
    c.call.new.self c.read.new.counts c.in-Ok-default-false.ensures.built_within c.call.ensures
    c.in-Ok-default-false.ensures.cost c.in-Ok-default-false.ensures.depth c.in-Ok-default-false.ensures.builds

pub returns-else-passes-clause-takes : goal.returns-else-passes-clause-takes
returns-else-passes-clause-takes g c = λ b h.
    let works = ap (λ (s : State). s.failed) c.self.view_is ∙ c.requires.works in
    let parted = parted_at c.self.inside c.deref.result.now works c.deref.ensures.value _ _ _ c.min.ensures
    c.split_at.ensures.front c.split_at.ensures.back in
    let got : ReadsInto g.B.Builder.shows c.self.inside.machine c.split_at.result.0.now c.read.new.self c.args.out.now
    c.read.new.out (Ok (c.in-Ok-default-false.taken, false)) = rw c.in-Ok-default-false.field-0-1-test at
    c.in-Ok-default-false.ensures.reads in
    let none : c.split_at.result.1.now ≡ [] = grind
    (arith, common_steps, nat_tests, c.is_empty-passes.ensures, c.if-passes.false) in (
      waits-takes c.self.invariant parted c.read.new.self c.in-Ok-default-false.ensures.limit c.in-Ok-default-false.taken none got.0 _
          refl refl refl b
          (StandsAfter-since c.args.self.now b h ∙ sym (ap (λ (s : State). s.since) c.self.view_is)),
      got.1,
    )

pub returns-else-passes-clause-bounds : goal.returns-else-passes-clause-bounds
returns-else-passes-clause-bounds g c =
    let kept = invariant_of-self-in-Ok-default-false g c in
    bounded kept _ _ (λ w. g.met.B.Builder.paid_for _ _ _ (kept.builds w))

-- a fault was met

pub invariant_of-self-in-Err-Fault : goal.invariant_of-self-in-Err-Fault
invariant_of-self-in-Err-Fault g c =
    let works = ap (λ (s : State). s.failed) c.self.view_is ∙ c.requires.works in
    let parted = parted_at c.self.inside c.deref.result.now works c.deref.ensures.value _ _ _ c.min.ensures
    c.split_at.ensures.front c.split_at.ensures.back in
    let got : ReadsInto g.B.Builder.shows c.self.inside.machine c.split_at.result.0.now c.read.new.self c.args.out.now
    c.read.new.out (Err (record_fault.Fault c.in-Err-Fault.fault)) = rw c.in-Err-Fault.field-0-is at
    c.in-Err-Fault.ensures.reads in
    fault-kept c.self.invariant parted c.read.new.self c.in-Err-Fault.ensures.limit (record_fault.Fault c.in-Err-Fault.fault) got.0
    c.call.new.self c.read.new.counts c.call.ensures c.in-Err-Fault.ensures.cost c.in-Err-Fault.ensures.depth
    c.in-Err-Fault.fault got.0

pub returns-in-Err-Fault-clause-takes : goal.returns-in-Err-Fault-clause-takes
returns-in-Err-Fault-clause-takes g c = λ b h.
    let works = ap (λ (s : State). s.failed) c.self.view_is ∙ c.requires.works in
    let parted = parted_at c.self.inside c.deref.result.now works c.deref.ensures.value _ _ _ c.min.ensures
    c.split_at.ensures.front c.split_at.ensures.back in
    let got : ReadsInto g.B.Builder.shows c.self.inside.machine c.split_at.result.0.now c.read.new.self c.args.out.now
    c.read.new.out (Err (record_fault.Fault c.in-Err-Fault.fault)) = rw c.in-Err-Fault.field-0-is at
    c.in-Err-Fault.ensures.reads in (
      stops-fault c.self.invariant parted c.read.new.self c.in-Err-Fault.ensures.limit _ refl refl refl c.in-Err-Fault.fault got.0 b
          (StandsAfter-since c.args.self.now b h ∙ sym (ap (λ (s : State). s.since) c.self.view_is)),
      got.1,
    )

pub returns-in-Err-Fault-clause-bounds : goal.returns-in-Err-Fault-clause-bounds
returns-in-Err-Fault-clause-bounds g c =
    let kept = invariant_of-self-in-Err-Fault g c in
    bounded kept _ _ (λ w. g.met.B.Builder.paid_for _ _ _ (kept.builds w))

-- memory ran out

pub invariant_of-self-in-Err-Memory : goal.invariant_of-self-in-Err-Memory
invariant_of-self-in-Err-Memory g c =
    let works = ap (λ (s : State). s.failed) c.self.view_is ∙ c.requires.works in
    let parted = parted_at c.self.inside c.deref.result.now works c.deref.ensures.value _ _ _ c.min.ensures
    c.split_at.ensures.front c.split_at.ensures.back in
    let got : ReadsInto g.B.Builder.shows c.self.inside.machine c.split_at.result.0.now c.read.new.self c.args.out.now
    c.read.new.out (Err record_fault.Memory) = rw c.in-Err-Memory.field-0-is at c.in-Err-Memory.ensures.reads in
    memory-kept c.self.invariant parted c.read.new.self c.in-Err-Memory.ensures.limit record_fault.Memory got.0 c.call.new.self
    c.read.new.counts c.call.ensures c.in-Err-Memory.ensures.cost c.in-Err-Memory.ensures.depth

pub returns-in-Err-Memory-clause-takes : goal.returns-in-Err-Memory-clause-takes
returns-in-Err-Memory-clause-takes g c = λ b h.
    let works = ap (λ (s : State). s.failed) c.self.view_is ∙ c.requires.works in
    let parted = parted_at c.self.inside c.deref.result.now works c.deref.ensures.value _ _ _ c.min.ensures
    c.split_at.ensures.front c.split_at.ensures.back in
    let got : ReadsInto g.B.Builder.shows c.self.inside.machine c.split_at.result.0.now c.read.new.self c.args.out.now
    c.read.new.out (Err record_fault.Memory) = rw c.in-Err-Memory.field-0-is at c.in-Err-Memory.ensures.reads in (
      stops-memory c.self.invariant parted c.read.new.self c.in-Err-Memory.ensures.limit _ refl refl b
          (StandsAfter-since c.args.self.now b h ∙ sym (ap (λ (s : State). s.since) c.self.view_is)),
      got.1,
    )

pub returns-in-Err-Memory-clause-bounds : goal.returns-in-Err-Memory-clause-bounds
returns-in-Err-Memory-clause-bounds g c =
    let kept = invariant_of-self-in-Err-Memory g c in
    bounded kept _ _ (λ w. g.met.B.Builder.paid_for _ _ _ (kept.builds w))

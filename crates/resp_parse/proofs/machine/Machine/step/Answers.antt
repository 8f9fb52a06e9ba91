use Rattle.std.proofs.Common.{◌≡◌, ◌-◌, List, ℕ, length, take, drop, true, false, ap, arith, refl, subst, Ok, Err}
use Rattle.std.proofs.lemmas.Grind.{common_steps}
use Rattle.resp_parse.specs.declared.machine.Machine.{Machine}
use Rattle.resp_parse.specs.Resume.{EndsBody}
use Rattle.resp_parse.specs.Costs.{body_least_bytes}
use Rattle.resp_parse.proofs.FilledBodies.{builds-body}
use Rattle.resp_parse.proofs.BodiesInPieces.{body-waits, body-malformed, body-refused, body-whole, IsScanned-body}
use Rattle.resp_parse.proofs.Sizes.{body-small}
use Rattle.resp_parse.proofs.machine.Machine.step.Goals as goal

pub returns-in-Err-clause-steps : goal.returns-in-Err-clause-steps
returns-in-Err-clause-steps g c =
    let x : take (length c.args.bytes.now - c.in_ok-taken.taken) (drop c.in_ok-taken.taken c.args.bytes.now)
    ≡ drop c.in_ok-taken.taken c.args.bytes.now = grind (arith, common_steps) in
    rw c.record_fault.ensures.why
    (body-malformed c.args.self.now c.in-Some.body c.fill.new.self c.args.bytes.now c.in_ok-taken.taken c.in-Some.is
    c.in_ok-taken.ensures.fills c.record_fault.new.self c.in-Err.shown
    (ap (λ (m : Machine _). m.shown) c.record_fault.ensures.shown)
    (subst (λ (s : List ℕ). EndsBody s (Err c.in-Err.shown)) x c.in-Err.ensures.end))

pub returns-in-Ok-false-clause-steps : goal.returns-in-Ok-false-clause-steps
returns-in-Ok-false-clause-steps g c =
    let x : take (length c.args.bytes.now - c.in_ok-taken.taken) (drop c.in_ok-taken.taken c.args.bytes.now)
    ≡ drop c.in_ok-taken.taken c.args.bytes.now = grind (arith, common_steps) in
    body-waits c.args.self.now c.in-Some.body c.fill.new.self c.args.bytes.now c.in_ok-taken.taken c.in-Some.is
    c.in_ok-taken.ensures.fills
    (IsScanned-body c.args.self.now c.in-Some.body c.args.bytes.now c.in-Some.is c.requires.scanned)
    (subst (λ (s : List ℕ). EndsBody s (Ok false)) x (rw c.in-Ok-false.field-0-test at c.in-Ok-false.ensures.end)) _
    refl

pub returns-in-Err-whole-clause-steps : goal.returns-in-Err-whole-clause-steps
returns-in-Err-whole-clause-steps g c =
    let x : take (length c.args.bytes.now - c.in_ok-taken.taken) (drop c.in_ok-taken.taken c.args.bytes.now)
    ≡ drop c.in_ok-taken.taken c.args.bytes.now = grind (arith, common_steps) in
    rw c.record_fault-in-Err-whole.ensures.why
    (body-refused c.args.self.now c.in-Some.body c.fill.new.self c.args.bytes.now c.in_ok-taken.taken c.in-Some.is
    c.in_ok-taken.ensures.fills
    (subst (λ (s : List ℕ). EndsBody s (Ok true)) x (rw c.in-Ok-true.field-0-test at c.in-Ok-true.ensures.end))
    c.record_fault-in-Err-whole.new.self c.in-Err-whole.why
    (ap (λ (m : Machine _). m.shown) c.record_fault-in-Err-whole.ensures.shown)
    (c.in-Err-whole.ensures.value c.args.self.now.open_aggregates
    (c.in_ok-taken.ensures.stands c.args.self.now.open_aggregates
    (builds-body g.B.Builder.stands c.args.self.now c.in-Some.body c.in-Some.is c.requires.builds))))

pub returns-in-Ok-clause-steps : goal.returns-in-Ok-clause-steps
returns-in-Ok-clause-steps g c =
    let x : take (length c.args.bytes.now - c.in_ok-taken.taken) (drop c.in_ok-taken.taken c.args.bytes.now)
    ≡ drop c.in_ok-taken.taken c.args.bytes.now = grind (arith, common_steps) in
    body-whole c.args.self.now c.in-Some.body c.fill.new.self c.args.bytes.now c.in_ok-taken.taken c.in-Some.is
    c.in_ok-taken.ensures.fills
    (IsScanned-body c.args.self.now c.in-Some.body c.args.bytes.now c.in-Some.is c.requires.scanned)
    (subst (λ (s : List ℕ). EndsBody s (Ok true)) x (rw c.in-Ok-true.field-0-test at c.in-Ok-true.ensures.end))
    _ refl c.in-Ok.whole (c.in-Ok.ensures.value c.args.self.now.open_aggregates (c.in_ok-taken.ensures.stands
    c.args.self.now.open_aggregates
    (builds-body g.B.Builder.stands c.args.self.now c.in-Some.body c.in-Some.is c.requires.builds)))

-- a body is one value, for which its header counted
pub returns-in-Ok-clause-built_within : goal.returns-in-Ok-clause-built_within
returns-in-Ok-clause-built_within g c =
    let value = c.in-Ok.ensures.value c.args.self.now.open_aggregates
    (c.in_ok-taken.ensures.stands c.args.self.now.open_aggregates
    (builds-body g.B.Builder.stands c.args.self.now c.in-Some.body c.in-Some.is c.requires.builds)) in
    let one = body-small _ _ _ value in
    let before : body_least_bytes c.args.self.now.body ≡ 3 = ap body_least_bytes c.in-Some.is in
    omega (arith, one, before)

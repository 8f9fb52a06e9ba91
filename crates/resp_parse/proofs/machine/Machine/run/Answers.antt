use Rattle.std.proofs.Common.{◌≡◌, ◌∙◌, ◌+◌, ◌-◌, length, take, drop, arith, Ok}
use Rattle.std.proofs.lemmas.Grind.{common_steps}
use Rattle.resp_parse.specs.declared.machine.Step.TheVariants as step
use Rattle.resp_parse.specs.Costs.{StepBuiltWithin}
use Rattle.resp_parse.specs.Resume.{Steps, Ran}
use Rattle.resp_parse.proofs.Running.{Ran-start, Ran-end, Ran-waits, Ran-goes, Ran-attaches, Ran-further, Ran-reads}
use Rattle.resp_parse.proofs.AmortisedCost.{CostSoFar-start, CostSoFar-end, CostSoFar-waits, CostSoFar-goes}
use Rattle.resp_parse.proofs.AmortisedCost.{CostSoFar-attaches, CostSoFar-further, CostSoFar-reads}
use Rattle.resp_parse.proofs.AmortisedCost.{CostSoFar-built_within}
use Rattle.resp_parse.proofs.machine.Machine.run.Goals as goal

pub loop-at-init : goal.loop-at-init
loop-at-init g c = record {
  ran = Ran-start c.args.self.now c.args.bytes.now c.requires.depth c.requires.scanned;
  builds = c.requires.builds;
  cost_so_far = CostSoFar-start c.args.self.now c.args.counts.now;
}

pub returns-clause-runs : goal.returns-clause-runs
returns-clause-runs g c = Ran-end c.args.self.now c.loop-at.self c.args.bytes.now c.loop-at.at c.loop-at.invariant.ran
    (omega arith)

pub returns-clause-cost : goal.returns-clause-cost
returns-clause-cost g c = CostSoFar-end c.args.self.now c.loop-at.self c.args.counts.now c.loop-at.counts c.loop-at.at
    c.loop-at.invariant.cost_so_far c.args.bytes.now

pub returns-clause-built_within : goal.returns-clause-built_within
returns-clause-built_within g c = c.loop-at.invariant.cost_so_far.built_within

pub returns-in-Ok-Waits-clause-built_within : goal.returns-in-Ok-Waits-clause-built_within
returns-in-Ok-Waits-clause-built_within g c =
    let w : StepBuiltWithin c.loop-at.self c.step.new.self (Ok (step.Waits c.in-Ok-Waits.taken)) = rw
    c.in-Ok-Waits.field-0-is at c.in-Ok-Waits.ensures.built_within in
    omega (arith, w, c.loop-at.invariant.cost_so_far.built_within)

pub returns-in-Ok-Waits-clause-cost : goal.returns-in-Ok-Waits-clause-cost
returns-in-Ok-Waits-clause-cost g c =
    CostSoFar-waits c.args.self.now c.loop-at.self c.args.counts.now c.loop-at.counts c.loop-at.at
    c.loop-at.invariant.cost_so_far c.step.new.self c.step.new.counts c.args.bytes.now c.args.bytes.now
    c.in-Ok-Waits.taken (rw c.in-Ok-Waits.field-0-is at c.in-Ok-Waits.ensures.cost)

pub returns-in-Ok-Some-clause-built_within : goal.returns-in-Ok-Some-clause-built_within
returns-in-Ok-Some-clause-built_within g c =
    CostSoFar-built_within c.args.self.now c.loop-at.self c.args.counts.now c.loop-at.counts c.loop-at.at
    c.loop-at.invariant.cost_so_far c.step.new.self c.attach.new.self c.step.new.counts c.attach.new.counts
    c.args.bytes.now c.in-Ok-Whole.taken c.in-Ok-Whole.whole
    (rw c.in-Ok-Whole.field-0-is at c.in-Ok-Whole.ensures.cost)
    (rw c.in-Ok-Whole.field-0-is at c.in-Ok-Whole.ensures.built_within) c.in-Ok-Some.ensures.iterations
    c.in-Ok-Some.whole (rw c.in-Ok-Some.field-0-is at c.in-Ok-Some.ensures.built_within)

pub returns-in-Ok-Some-clause-cost : goal.returns-in-Ok-Some-clause-cost
returns-in-Ok-Some-clause-cost g c =
    CostSoFar-reads c.args.self.now c.loop-at.self c.args.counts.now c.loop-at.counts c.loop-at.at
    c.loop-at.invariant.cost_so_far c.step.new.self c.attach.new.self c.step.new.counts c.attach.new.counts
    c.args.bytes.now c.in-Ok-Whole.taken c.in-Ok-Whole.whole
    (rw c.in-Ok-Whole.field-0-is at c.in-Ok-Whole.ensures.cost)
    (rw c.in-Ok-Whole.field-0-is at c.in-Ok-Whole.ensures.built_within) c.in-Ok-Some.ensures.iterations
    c.in-Ok-Some.whole c.args.bytes.now c.in-Ok-Some.ensures.places c.in-Ok-Some.ensures.scanned

pub loop-at-preserved-in-Ok-Goes : goal.loop-at-preserved-in-Ok-Goes
loop-at-preserved-in-Ok-Goes g c =
    let f : take (length c.args.bytes.now - c.loop-at.at) (drop c.loop-at.at c.args.bytes.now)
    ≡ drop c.loop-at.at c.args.bytes.now = grind (arith, common_steps) in
    let s : Steps c.loop-at.self (drop c.loop-at.at c.args.bytes.now) c.step.new.self
    (Ok (step.Goes c.in-Ok-Goes.taken)) = rw f at (rw c.in-Ok-Goes.field-0-is at c.in-Ok-Goes.ensures.steps) in
    record {
      ran = Ran-goes c.args.self.now c.loop-at.self c.args.bytes.now c.loop-at.at c.loop-at.invariant.ran
          c.step.new.self c.in-Ok-Goes.taken s c.in-Ok-Goes.ensures.limit c.in-Ok-Goes.ensures.depth;
      builds = rw c.in-Ok-Goes.field-0-is at c.in-Ok-Goes.ensures.builds;
      cost_so_far = CostSoFar-goes c.args.self.now c.loop-at.self c.args.counts.now c.loop-at.counts c.loop-at.at
          c.loop-at.invariant.cost_so_far c.step.new.self c.step.new.counts c.args.bytes.now c.in-Ok-Goes.taken
          (rw c.in-Ok-Goes.field-0-is at c.in-Ok-Goes.ensures.cost)
          (rw c.in-Ok-Goes.field-0-is at c.in-Ok-Goes.ensures.built_within);
    }

pub returns-in-Ok-Waits-clause-runs : goal.returns-in-Ok-Waits-clause-runs
returns-in-Ok-Waits-clause-runs g c =
    let f : take (length c.args.bytes.now - c.loop-at.at) (drop c.loop-at.at c.args.bytes.now)
    ≡ drop c.loop-at.at c.args.bytes.now = grind (arith, common_steps) in
    let s : Steps c.loop-at.self (drop c.loop-at.at c.args.bytes.now) c.step.new.self
    (Ok (step.Waits c.in-Ok-Waits.taken)) = rw f at (rw c.in-Ok-Waits.field-0-is at c.in-Ok-Waits.ensures.steps) in
    Ran-waits c.args.self.now c.loop-at.self c.args.bytes.now c.loop-at.at c.loop-at.invariant.ran c.step.new.self
    c.in-Ok-Waits.taken s

pub returns-in-Ok-Some-clause-runs : goal.returns-in-Ok-Some-clause-runs
returns-in-Ok-Some-clause-runs g c =
    let f : take (length c.args.bytes.now - c.loop-at.at) (drop c.loop-at.at c.args.bytes.now)
    ≡ drop c.loop-at.at c.args.bytes.now = grind (arith, common_steps) in
    let s : Steps c.loop-at.self (drop c.loop-at.at c.args.bytes.now) c.step.new.self
    (Ok (step.Whole c.in-Ok-Whole.taken c.in-Ok-Whole.whole)) = rw f at
    (rw c.in-Ok-Whole.field-0-is at c.in-Ok-Whole.ensures.steps) in
    Ran-reads c.args.self.now c.loop-at.self c.args.bytes.now c.loop-at.at c.loop-at.invariant.ran c.step.new.self
    c.attach.new.self c.in-Ok-Whole.taken c.in-Ok-Whole.whole s c.in-Ok-Some.whole
    (rw c.in-Ok-Some.field-0-is at c.in-Ok-Some.ensures.ends) c.in-Ok-Some.ensures.scanned

-- a value that was put in an aggregate, and elements after it
pub loop-at-preserved : goal.loop-at-preserved
loop-at-preserved g c =
    let bytes = c.args.bytes.now in
    let from = c.loop-at.at + c.in-Ok-Whole.taken in
    let f : take (length bytes - c.loop-at.at) (drop c.loop-at.at bytes) ≡ drop c.loop-at.at bytes = grind
    (arith, common_steps) in
    let s : Steps c.loop-at.self (drop c.loop-at.at bytes) c.step.new.self
    (Ok (step.Whole c.in-Ok-Whole.taken c.in-Ok-Whole.whole)) = rw f at
    (rw c.in-Ok-Whole.field-0-is at c.in-Ok-Whole.ensures.steps) in
    let attached = c.in-Ok-None.ensures in
    let ran = Ran-attaches c.args.self.now c.loop-at.self bytes c.loop-at.at c.loop-at.invariant.ran
    c.step.new.self c.attach.new.self c.in-Ok-Whole.taken c.in-Ok-Whole.whole s
    (rw c.in-Ok-None.field-0-is at attached.ends) attached.scanned (attached.limit ∙ c.in-Ok-Whole.ensures.limit)
    attached.depth in
    let cost = CostSoFar-attaches c.args.self.now c.loop-at.self c.args.counts.now c.loop-at.counts c.loop-at.at
    c.loop-at.invariant.cost_so_far c.step.new.self c.attach.new.self c.step.new.counts c.attach.new.counts
    bytes c.in-Ok-Whole.taken c.in-Ok-Whole.whole (rw c.in-Ok-Whole.field-0-is at c.in-Ok-Whole.ensures.cost)
    (rw c.in-Ok-Whole.field-0-is at c.in-Ok-Whole.ensures.built_within) attached.iterations attached.places
    (rw c.in-Ok-None.field-0-is at attached.built_within) attached.scanned in
    let e : take (length bytes - from) (drop from bytes) ≡ drop from bytes = grind (arith, common_steps) in
    let n = c.in_ok-at-in-Ok-None.field-0 in
    let took : Ran c.attach.new.self c.elements.new.self (drop from bytes) n = rw e at
    c.in_ok-at-in-Ok-None.ensures.takes.0 in
    record {
      ran = Ran-further c.args.self.now c.attach.new.self bytes from ran c.elements.new.self n took;
      builds = rw c.in_ok-at-in-Ok-None.ensures.takes.1 c.in_ok-at-in-Ok-None.ensures.builds;
      cost_so_far = CostSoFar-further c.args.self.now c.attach.new.self c.args.counts.now c.attach.new.counts from cost
          c.elements.new.self c.elements.new.counts n c.in_ok-at-in-Ok-None.ensures.cost;
    }

use Rattle.std.proofs.Common.{rules, of_calls, arith, refl}
use Rattle.resp_pipeline.proofs.SoFar.{one_more, answered, used_up, stopped}
use Rattle.resp_pipeline.proofs.retries.retrying.Goals.{then-left-eq0-via-then-left-eq0}
use Rattle.resp_pipeline.proofs.retries.retrying.Goals.{then-left-eq0-via-else-left-eq0+then-not-again}
use Rattle.resp_pipeline.proofs.retries.retrying.Goals as goal

pub returns-in-Ok : goal.returns-in-Ok
returns-in-Ok g c = answered _ _ _ _ _ _ _ _ _ _ c.loop-answer.invariant.so_far c.in-Ok.ensures

pub returns-then-left-eq0 : goal.returns-then-left-eq0
returns-then-left-eq0 g c = elim c.then-left-eq0.branch [
  | then-left-eq0-via-then-left-eq0 w ↦ rw w.again-is
      (used_up _ _ _ _ _ _ _ _ _ _ c.loop-answer.invariant.so_far w.if-left-eq0.true c.in-Err.ensures)
  | then-left-eq0-via-else-left-eq0+then-not-again w ↦ rw w.again-is
      (stopped _ _ _ _ _ _ _ _ _ _ _ c.loop-answer.invariant.so_far
      (let some = w.if-left-eq0.false in omega arith) c.in-Err.ensures
      (record { shown = _; shows = refl; called = w.if-not-again.ensures }))
]

pub loop-answer-preserved : goal.loop-answer-preserved
loop-answer-preserved g c = record {
  decides = search (rules, of_calls);
  so_far = one_more _ _ _ _ _ _ _ _ _ _ _ c.loop-answer.invariant.so_far (omega arith) c.in-Err.ensures
      (record { shown = _; shows = refl; called = c.if-not-again.ensures });
}

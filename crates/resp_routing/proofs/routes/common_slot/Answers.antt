use Rattle.std.proofs.lemmas.Result.{err_from_is_err_and}
use Rattle.resp_routing.proofs.OneSlot.{clash, joins, passes}
use Rattle.resp_routing.proofs.routes.common_slot.Goals.{then-position-args+in_ok-with_slot, else-position-args}
use Rattle.resp_routing.proofs.routes.common_slot.Goals as goal

pub returns-in_err-with_slot-clause-apart : goal.returns-in_err-with_slot-clause-apart
returns-in_err-with_slot-clause-apart c =
    let p = err_from_is_err_and c.from_residual.result c.from_residual.ensures.1 in
    rw (p.1, p.2) (
      c.in_err-with_slot.ensures.apart.0,
      clash c.args.args.now c.args.positions.now c.loop-position.position-index _ c.loop-position-test.true c.loop-position.common _
          c.if-position-args.true c.loop-position.invariant c.get_slot.ensures.slot c.in_err-with_slot.ensures.apart.1,
    )

pub loop-position-preserved : goal.loop-position-preserved
loop-position-preserved c =
    elim c.if-position-args.branch [
      | then-position-args+in_ok-with_slot w ↦ rw w.common-is
          (rw w.in_ok-with_slot.ensures.same.0 (joins c.args.args.now c.args.positions.now c.loop-position.position-index _ c.loop-position-test.true
          c.loop-position.common _ w.if-position-args.true c.loop-position.invariant w.get_slot.ensures.slot w.in_ok-with_slot.ensures.same.1))
      | else-position-args w ↦ rw w.common-is
          (passes c.args.args.now c.args.positions.now c.loop-position.position-index c.loop-position.common
          c.loop-position-test.true w.if-position-args.false c.loop-position.invariant)
    ]

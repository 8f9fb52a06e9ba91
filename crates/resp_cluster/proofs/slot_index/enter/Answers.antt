use Rattle.std.proofs.Common.{arith}
use Rattle.std.proofs.lemmas.Bool.Decides.{nat_tests}
use Rattle.resp_cluster.proofs.Indexing.{one_entered, all_entered}
use Rattle.resp_cluster.proofs.slot_index.enter.Goals as goal

pub loop-slot-preserved : goal.loop-slot-preserved
loop-slot-preserved c = one_entered c.loop-slot.slot c.args.range.now c.args.distance c.args.entries.now
    c.loop-slot.entries (grind (
      arith,
      nat_tests,
      c.min-end.ensures,
      c.from.ensures,
      c.from-slot.ensures,
      c.loop-slot.auto.slot,
      c.loop-slot-test.true,
    )) c.loop-slot.invariant

pub returns : goal.returns
returns c = all_entered c.loop-slot.slot c.args.range.now c.args.distance c.args.entries.now c.loop-slot.entries
    c.loop-slot.invariant (λ slot within. grind (
      arith,
      nat_tests,
      c.min-end.ensures,
      c.from.ensures,
      c.loop-slot.auto.entries,
      c.loop-slot-test.false,
      within,
    ))

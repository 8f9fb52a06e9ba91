use Rattle.std.proofs.Common.{arith}
use Rattle.resp_cluster.proofs.Indexing.{one_place_more}
use Rattle.resp_cluster.proofs.slot_index.SlotIndex.of.Goals as goal

pub loop-place-preserved : goal.loop-place-preserved
loop-place-preserved c = (
  omega (arith, c.loop-place.invariant.0),
  one_place_more c.args.ranges.now c.loop-place.place c.index-ranges-place.result _ _ _ c.loop-place-test.true
      c.loop-place.invariant.0 c.index-ranges-place.is (omega arith) c.loop-place.invariant.1 c.enter.ensures,
)

use Rattle.resp_pipeline.proofs.KeptItems.{KeptSoFar}
use Rattle.resp_pipeline.proofs.composing.keep.Given as goal

abbrev pub invariant-loop-position : goal.invariant-loop-position
invariant-loop-position l = KeptSoFar l.ignored l.fn.items.items l.items.items l.len l.position

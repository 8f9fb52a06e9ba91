use Rattle.resp_cluster.proofs.Conjunctions.{AndSoFar}
use Rattle.resp_cluster.proofs.truths.logical_and.Given as goal

abbrev pub invariant-loop-reply : goal.invariant-loop-reply
invariant-loop-reply l = AndSoFar l.fn.replies l.others l.reply-index l.all.items

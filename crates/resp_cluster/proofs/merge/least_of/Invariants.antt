use Rattle.resp_cluster.proofs.Merging.{LeastSoFar}
use Rattle.resp_cluster.proofs.merge.least_of.Given as goal

abbrev pub invariant-loop-reply : goal.invariant-loop-reply
invariant-loop-reply l = LeastSoFar l.fn.replies l.others l.reply-index l.least

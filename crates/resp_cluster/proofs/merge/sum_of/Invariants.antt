use Rattle.std.proofs.Common.{take}
use Rattle.resp_cluster.proofs.Merging.{Summed}
use Rattle.resp_cluster.proofs.merge.sum_of.Given as goal

abbrev pub invariant-loop-reply : goal.invariant-loop-reply
invariant-loop-reply l = Summed (take l.reply-index l.replies) l.sum

use Rattle.std.proofs.Common.{◌≡◌, All, take}
use Rattle.resp_value.specs.declared.value.Value.{Okay}
use Rattle.resp_cluster.proofs.merge.okay_of.Given as goal

abbrev pub invariant-loop-reply : goal.invariant-loop-reply
invariant-loop-reply l = All (λ reply. reply ≡ Okay) (take l.reply-index l.replies)

use Rattle.std.proofs.Common.{◌≡◌, length}
use Rattle.resp_cluster.specs.Shards.{slot_pairs}
use Rattle.resp_cluster.proofs.Entries.{after}
use Rattle.resp_cluster.proofs.shards_reply.slot_pairs.Given as goal

abbrev pub invariant-loop-rest : goal.invariant-loop-rest
invariant-loop-rest l = slot_pairs l.slots ≡ after l.pairs (slot_pairs l.rest)

abbrev pub decreases-loop-rest : goal.decreases-loop-rest
decreases-loop-rest l = length l.rest

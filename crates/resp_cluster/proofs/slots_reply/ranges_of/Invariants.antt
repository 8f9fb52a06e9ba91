use Rattle.std.proofs.Common.{◌≡◌, drop}
use Rattle.resp_cluster.specs.Replies.{ranges_in}
use Rattle.resp_cluster.proofs.Entries.{after}
use Rattle.resp_cluster.proofs.slots_reply.ranges_of.Given as goal

abbrev pub invariant-loop-entry : goal.invariant-loop-entry
invariant-loop-entry l = ranges_in l.asked l.entries ≡ after l.ranges (ranges_in l.asked (drop l.entry-index l.entries))

use Rattle.resp_cluster.proofs.Entries.{next_pair}
use Rattle.resp_cluster.proofs.shards_reply.slot_pairs.Goals as goal

pub loop-rest-preserved : goal.loop-rest-preserved
loop-rest-preserved c =
    next_pair _ c.loop-rest.rest.now c.first-item.result c.last-item.result _ _ _ c.in-len2-up.len_at_least c.first-item.is
    c.last-item.is c.in_ok-slots_of.ensures c.in_ok-push.ensures.ok c.loop-rest.invariant

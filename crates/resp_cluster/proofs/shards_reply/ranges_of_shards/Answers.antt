use Rattle.resp_cluster.proofs.Entries.{next_shard}
use Rattle.resp_cluster.proofs.shards_reply.ranges_of_shards.Goals as goal

pub loop-shard-preserved : goal.loop-shard-preserved
loop-shard-preserved c =
    next_shard _ _ _ _ c.shard-item.result _ _ c.loop-shard-test.true c.shard-item.is c.in_ok-push_shard.ensures
    c.loop-shard.invariant

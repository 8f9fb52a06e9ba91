use Rattle.std.proofs.Common.{◌≡◌, drop}
use Rattle.resp_cluster.specs.Shards.{shards_in}
use Rattle.resp_cluster.proofs.Entries.{after}
use Rattle.resp_cluster.proofs.shards_reply.ranges_of_shards.Given as goal

abbrev pub invariant-loop-shard : goal.invariant-loop-shard
invariant-loop-shard l = shards_in l.asked l.kind l.shards ≡ after l.ranges (shards_in l.asked l.kind (drop l.shard-index l.shards))

use Rattle.std.proofs.Common.{◌≡◌, ◌++◌, map, take}
use Rattle.resp_cluster.specs.Shards.{range_of_shard}
use Rattle.resp_cluster.proofs.shards_reply.push_ranges.Given as goal

abbrev pub invariant-loop-pair : goal.invariant-loop-pair
invariant-loop-pair l = l.ranges ≡ l.fn.ranges ++ map (range_of_shard l.served) (take l.pair-index l.pairs)

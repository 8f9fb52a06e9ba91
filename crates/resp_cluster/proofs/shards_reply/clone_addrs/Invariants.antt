use Rattle.std.proofs.Common.{◌≡◌, take}
use Rattle.resp_cluster.proofs.shards_reply.clone_addrs.Given as goal

abbrev pub invariant-loop-addr : goal.invariant-loop-addr
invariant-loop-addr l = l.copies ≡ take l.addr-index l.addrs

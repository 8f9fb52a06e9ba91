use Rattle.std.proofs.Common.{◌≡◌}
use Rattle.resp_value.specs.MapIters.{pairs_left}
use Rattle.resp_cluster.specs.Shards.{entry_of, field_in}
use Rattle.resp_cluster.proofs.shards_reply.field.Given as goal

abbrev pub invariant-loop-name : goal.invariant-loop-name
invariant-loop-name l = entry_of l.key (pairs_left l.entries) ≡ field_in l.key l.value

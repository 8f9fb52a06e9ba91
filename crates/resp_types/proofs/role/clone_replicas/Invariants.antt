use Rattle.std.proofs.Common.{◌≡◌, take}
use Rattle.resp_types.proofs.role.clone_replicas.Given as goal

abbrev pub invariant-loop-replica : goal.invariant-loop-replica
invariant-loop-replica l = l.copies ≡ take l.replica-index l.replica-items

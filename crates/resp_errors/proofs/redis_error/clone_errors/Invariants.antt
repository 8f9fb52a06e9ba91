use Rattle.std.proofs.Common.{◌≡◌, take}
use Rattle.resp_errors.proofs.redis_error.clone_errors.Given as goal

abbrev pub invariant-loop-position : goal.invariant-loop-position
invariant-loop-position l = l.copies ≡ take l.position-index l.errors

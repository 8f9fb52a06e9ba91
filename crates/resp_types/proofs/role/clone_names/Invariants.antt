use Rattle.std.proofs.Common.{◌≡◌, take}
use Rattle.resp_types.proofs.role.clone_names.Given as goal

abbrev pub invariant-loop-name : goal.invariant-loop-name
invariant-loop-name l = l.copies ≡ take l.name-index l.name-items

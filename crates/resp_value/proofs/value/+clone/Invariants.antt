use Rattle.std.proofs.Common.{◌≡◌, take}
use Rattle.resp_value.proofs.value.+clone.Given as goal

abbrev pub invariant-clone_elements-loop-element : goal.invariant-clone_elements-loop-element
invariant-clone_elements-loop-element l = l.copies ≡ take l.element-index l.element-items

abbrev pub invariant-clone_pairs-loop-key : goal.invariant-clone_pairs-loop-key
invariant-clone_pairs-loop-key l = l.copies ≡ take l.key-index l.key-items

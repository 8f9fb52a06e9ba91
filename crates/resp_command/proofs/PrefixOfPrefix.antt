-- Prefixes of a list.
use Rattle.std.proofs.Common.{◌≡◌, ◌++◌, List, length, take, arith}
use Rattle.std.proofs.lemmas.Grind.{common_steps}
use Rattle.std.proofs.lemmas.List.{take-append-drop}

-- a prefix of a prefix is a prefix
pub prefix_of_prefix : {A : Type 0} (old middle new more : List A) → middle ≡ old ++ more
    → take (length middle) new ≡ middle → take (length old) new ≡ old
prefix_of_prefix old middle new more e f = let g = take-append-drop (length middle) new in grind (arith, common_steps)

-- CR LF is found by one byte after another.
use Rattle.std.proofs.Common.{ℕ, ◌&&◌, ◌||◌, ◌==◌, Bool, false, List, [], ◌∷◌}
use Rattle.resp_encode.specs.Encoding.{has_break}

abbrev pub starts_with_lf : List ℕ → Bool
starts_with_lf [] = false
starts_with_lf (c ∷ bs) = c == 10

-- what is found in bytes, where the byte before them was CR or wasn't
abbrev pub found : Bool → List ℕ → Bool
found after_cr bs = (after_cr && starts_with_lf bs) || has_break bs

-- An argument in the place of another.
use Rattle.std.proofs.Common.{◌≡◌, ℕ, List, Vec}
use Rattle.std.specs.Global.{Global}
use Rattle.std.specs.Prelude.{slice_set}
use Rattle.std.proofs.lemmas.List.{map-set}
use Rattle.resp_args.specs.Args.{args_of}

pub replaced : (vectors : List (Vec ℕ Global)) (index : ℕ) (vector : Vec ℕ Global)
    → args_of (slice_set vectors index vector) ≡ slice_set (args_of vectors) index vector.items
replaced vectors index vector = map-set (λ v. v.items) vectors index vector

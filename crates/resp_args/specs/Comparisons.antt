-- Comparisons of a value, or of its digest, as arguments (Redis commands, "SET", "DELEX").
use Rattle.std.specs.Prelude.{◌≡◌, ℕ, List, [], ◌∷◌, codes}
use Rattle.resp_containers.specs.Lossy.{lossy}
use Rattle.resp_args.specs.Args.{Args}
use Rattle.resp_args.specs.declared.comparison.ValueComparison.{ValueComparison}
use Rattle.resp_args.specs.declared.comparison.ValueComparison.TheVariants as compare

-- the name of the comparison, and the text to compare with
abbrev pub args_of_comparison : ValueComparison → Args
args_of_comparison (compare.IFEQ value) = codes "IFEQ" ∷ value ∷ []
args_of_comparison (compare.IFNE value) = codes "IFNE" ∷ value ∷ []
args_of_comparison (compare.IFDEQ digest) = codes "IFDEQ" ∷ digest ∷ []
args_of_comparison (compare.IFDNE digest) = codes "IFDNE" ∷ digest ∷ []

-- the text of a value that gives one argument: its bytes, with U+FFFD for what is no UTF-8
abbrev pub IsArgText : {X : Type 0} → (X → Args → Type 0) → X → List ℕ → Type 0
IsArgText Gives x text = (arg : List ℕ) × Gives x (arg ∷ []) × (text ≡ lossy arg)

-- a comparison of this kind with the text of a value that gives one argument
abbrev pub ComparesBy : {X : Type 0} → (List ℕ → ValueComparison) → (X → Args → Type 0) → X
    → ValueComparison → Type 0
ComparesBy kind Gives x comparison =
    (text : List ℕ) × IsArgText Gives x text × (comparison ≡ kind text)

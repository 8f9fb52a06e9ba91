-- Two conversions of a reply agree, and what was written converts back.
use Rattle.std.specs.Prelude.{◌≡◌, ℕ, ◌<◌, ◌^◌, Bool, List, option_map, Result, Ok, Err}
use Rattle.std.specs.List.{list_any}
use Rattle.std.specs.Map.{lookup}
use Rattle.resp_errors.specs.declared.parsing_error.ParsingError.{ParsingError}
use Rattle.resp_errors.specs.declared.parsing_error.ParsingError.TheVariants as parsing
use Rattle.resp_value.specs.declared.value.Value.{BulkString, Value}
use Rattle.resp_from.specs.Conversion.{Converts}
use Rattle.resp_args.specs.Args.{Args, IsOnly}

-- what a result looks like
abbrev pub result_seen : {X S E : Type 0} → (X → S) → Result X E → Result S E
result_seen seen (Ok x) = Ok (seen x)
result_seen seen (Err e) = Err e

-- two answers to one reply: both are values, which are alike, or both refuse, unless memory ran out
abbrev pub AgreeBy : {X : Type 0} → (X → X → Type 0) → Result X ParsingError → Result X ParsingError
    → Type 0
AgreeBy Alike (Ok x) (Ok y) = Alike x y
AgreeBy Alike (Ok x) (Err e) = e ≡ parsing.OutOfMemory
AgreeBy Alike (Err e) (Ok x) = e ≡ parsing.OutOfMemory
AgreeBy Alike (Err d) (Err e) = Unit {0}

-- both are values of the reply or both refuse, unless memory ran out
abbrev pub Agree : {X : Type 0} → (X → Type 0) → Result X ParsingError → Result X ParsingError
    → Type 0
Agree Fits = AgreeBy (λ x y. Fits x × Fits y)

-- any two conversions of one reply give values that are alike or both refuse, unless memory ran out
abbrev pub ConvertAlike : {X : Type 0} → (Value → X → Type 0) → (X → X → Type 0) → Type 0
ConvertAlike {X} Of Alike = (reply : Value) (owned borrowed : Result X ParsingError)
    → Converts (Of reply) owned → Converts (Of reply) borrowed → AgreeBy Alike owned borrowed

-- the same entries, in any order: each key has values that look the same, or none in either
abbrev pub SameEntries : {K V T : Type 0} → (K → K → Bool) → (V → T) → List (K × V) → List (K × V)
    → Type 0
SameEntries {K} eq seen es ds =
    (key : K) → option_map seen (lookup (eq key) es) ≡ option_map seen (lookup (eq key) ds)

-- the same members, in any order: each item is in both or in neither
abbrev pub SameMembers : {X : Type 0} → (X → X → Bool) → List X → List X → Type 0
SameMembers {X} eq xs ys = (item : X) → list_any (eq item) xs ≡ list_any (eq item) ys

-- the number is one of the unsigned type of k bits
abbrev pub FitsUnsigned : ℕ → ℕ → Type 0
FitsUnsigned k n = n < 2 ^ k

-- a value that fits its type gives one argument, and converts back from it
abbrev pub ReadsBack : {X : Type 0} → (X → Type 0) → (X → Args → Type 0) → (Value → X → Type 0)
    → Type 0
ReadsBack {X} Fits Gives Of = (x : X) (args : Args) → Fits x → Gives x args
    → (arg : List ℕ) × IsOnly arg args × Of (BulkString arg) x

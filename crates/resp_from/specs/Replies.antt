-- Replies in the forms that types are read of, and the values that they show.
use Rattle.std.specs.Prelude.{◌≡◌, ◌⊎◌, List, [], ◌∷◌, Option, None, Some, codes}
use Rattle.std.specs.List.{All, AllZip}
use Rattle.resp_errors.specs.declared.parsing_error.ParsingError.{ParsingError}
use Rattle.resp_errors.specs.declared.parsing_error.ParsingError.TheVariants as parsing
use Rattle.resp_value.specs.declared.value.Value.{Value}
use Rattle.resp_flat.specs.declared.flat_value.FlatValue.{FlatValue}
use Rattle.resp_flat.specs.declared.flat_iter.FlatElements.{FlatElements}
use Rattle.resp_flat.specs.declared.flat_iter.FlatPairs.{FlatPairs}
use Rattle.resp_flat.specs.FlatValues.{Shows, IsShownIn, BothAreShownIn, elements_left, pairs_left}
use Rattle.resp_flat.specs.Readable.{BothAre, IsReadable}

-- what comes next of things that show these values: none where there are no values, and else one
-- that shows the first, after which the others are left
abbrev pub GivesNext : {R V : Type 0} → (R → V → Type 0) → (List V → Type 0) → Option R → List V
    → Type 0
GivesNext Shows Left None [] = Unit {0}
GivesNext Shows Left (Some r) (v ∷ vs) = Shows r v × Left vs
GivesNext Shows Left _ _ = ⊥

-- a key and a value show those of a pair
abbrev pub BothShow : {R : Type 0} → (R → Value → Type 0) → R × R → Value × Value → Type 0
BothShow Shows pair p = Shows pair.0 p.0 × Shows pair.1 p.1

-- ---- cursors in flat replies

-- the cursor stands at this value, which is read back from its tokens
abbrev pub ShowsReadable : FlatValue → Value → Type 0
ShowsReadable c v = Shows c v × IsReadable 1000 v

abbrev pub ShowReadable : FlatElements → List Value → Type 0
ShowReadable elements vs = AllZip IsShownIn (elements_left elements) vs × All (IsReadable 1000) vs

abbrev pub PairsShowReadable : FlatPairs → List (Value × Value) → Type 0
PairsShowReadable pairs ps =
    AllZip BothAreShownIn (pairs_left pairs) ps × All (BothAre (IsReadable 1000)) ps

-- ---- refusals

abbrev pub reply_is_empty : ParsingError
reply_is_empty = parsing.Described (codes "the reply is empty")

abbrev pub no_value : ParsingError
no_value = parsing.Described (codes "the tokens and the text are no value's")

-- memory ran out, or the tokens and the text are no value's
abbrev pub RefusesTokens : ParsingError → Type 0
RefusesTokens e = (e ≡ parsing.OutOfMemory) ⊎ (e ≡ no_value)

-- The values of several fields as one array, in an order of one's own: as HMGET answers.
use Rattle.std.specs.Prelude.{◌≡◌, ℕ, List, [], ◌∷◌, ◌++◌, map, Option, None, Some, option_map, unwrap_or, Result, Ok}
use Rattle.std.specs.Prelude.{Err}
use Rattle.std.specs.Borrow.{Bor}
use Rattle.resp_errors.specs.declared.parsing_error.ParsingError.{ParsingError}
use Rattle.resp_value.specs.declared.value.Value.{Value, Array, Nil}
use Rattle.resp_from.specs.Conversion.{OfVia, RefusesIf}
use Rattle.resp_types.specs.Fields.{NamedValues, value_of, without, OfFields, OfGiven}

-- the texts that these refer to
abbrev pub texts : List (Bor (List ℕ)) → List (List ℕ)
texts names = map (λ name. name.now) names

-- a value before others, if all are there
abbrev pub before : Option Value → Option (List Value) → Option (List Value)
before (Some value) values = option_map (λ more. value ∷ more) values
before None values = None

-- the values of the fields of these names, each taken out in turn, if all are there
abbrev pub values_of : List (List ℕ) → NamedValues → Option (List Value)
values_of [] fields = Some []
values_of (name ∷ names) fields =
    before (value_of name fields) (values_of names (without name fields))

-- the same, with `Nil` for each that isn't there
abbrev pub values_or_nil : List (List ℕ) → NamedValues → List Value
values_or_nil [] fields = []
values_or_nil (name ∷ names) fields =
    unwrap_or (value_of name fields) Nil ∷ values_or_nil names (without name fields)

-- the fields but those of these names
abbrev pub without_all : List (List ℕ) → NamedValues → NamedValues
without_all [] fields = fields
without_all (name ∷ names) fields = without_all names (without name fields)

-- the array of the values of these fields: of the needed ones, if all are there, and then of the
-- optional ones
abbrev pub row_of : List (List ℕ) → List (List ℕ) → NamedValues → Option Value
row_of needed optional fields =
    option_map (λ values. Array (values ++ values_or_nil optional (without_all needed fields)))
    (values_of needed fields)

-- the reply's fields have such an array, and it is x
abbrev pub OfRow : {X : Type 0} → List (List ℕ) → List (List ℕ) → (Value → X → Type 0) → Value → X
    → Type 0
OfRow needed optional Of =
    OfVia OfFields (λ fields x. OfGiven Of (row_of needed optional fields) x)

-- finding values and adding them to a list: refused where one isn't there
abbrev pub Finds : Option (List Value) → List Value → List Value
    → Result (Unit {0}) ParsingError → Type 0
Finds found old new (Ok done) = option_map (λ values. old ++ values) found ≡ Some new
Finds found old new (Err e) = RefusesIf e (found ≡ None)

-- finding a row: refused where there is none
abbrev pub FindsRow : Option Value → Result Value ParsingError → Type 0
FindsRow found (Ok row) = found ≡ Some row
FindsRow found (Err e) = RefusesIf e (found ≡ None)

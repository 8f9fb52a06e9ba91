-- Structs that are made of fields.
use Rattle.std.specs.Prelude.{◌≡◌, ℕ, List, []}
use Rattle.resp_value.specs.declared.value.Value.{Value}
use Rattle.resp_types.specs.Fields.{NamedValues, without, OfField, OfFieldOr}

-- the field of this name is x, and the other fields are as the fact says
abbrev pub Field : {X : Type 0} → List ℕ → (Value → X → Type 0) → X → (NamedValues → Type 0)
    → NamedValues → Type 0
Field name Of x Rest fields = OfField name Of fields x × Rest (without name fields)

-- the same, where x is the default if there is no such field
abbrev pub FieldOr : {X : Type 0} → List ℕ → (Value → X → Type 0) → X → X → (NamedValues → Type 0)
    → NamedValues → Type 0
FieldOr name Of default x Rest fields =
    OfFieldOr name Of default fields x × Rest (without name fields)

-- whatever other fields there are
abbrev pub AnyOthers : NamedValues → Type 0
AnyOthers fields = Unit {0}

-- there are no other fields
abbrev pub NoOthers : NamedValues → Type 0
NoOthers fields = fields ≡ []

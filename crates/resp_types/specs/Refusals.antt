-- Refusals that name a field.
use Rattle.std.specs.Prelude.{◌≡◌, ℕ, List, ◌++◌, codes}
use Rattle.resp_errors.specs.declared.parsing_error.ParsingError.{ParsingError}
use Rattle.resp_errors.specs.declared.parsing_error.ParsingError.TheVariants as parsing
use Rattle.resp_value.specs.declared.value.Value.{Value}
use Rattle.resp_from.specs.Conversion.{OrMemory}
use Rattle.resp_types.specs.Fields.{NamedValues, OfField, OfFieldOr}

-- why a field is refused, after its name
abbrev pub refusal_text : List ℕ → List ℕ → List ℕ
refusal_text name why = codes "field " ++ name ++ codes ": " ++ why

-- a refusal with the name of the field
abbrev pub in_field : List ℕ → ParsingError → ParsingError
in_field name (parsing.Described why) = parsing.Described (refusal_text name why)
in_field name e = e

-- the field isn't there
abbrev pub missing : List ℕ → ParsingError
missing name = parsing.Described (refusal_text name (codes "it is missing"))

abbrev pub IsMissing : List ℕ → ParsingError → Type 0
IsMissing name e = e ≡ missing name

-- the error is one of these refusals, with the name of the field
pub record NamesField (name : List ℕ) (Refuses : ParsingError → Type 0) (e : ParsingError) : Type 0 where
  pub why : ParsingError
  pub refuses : Refuses why
  pub named : e ≡ in_field name why

-- the refusal of the field of this name: it isn't there, or its value is refused; or memory ran out
abbrev pub RefusesField : List ℕ → (Value → ParsingError → Type 0) → NamedValues → ParsingError → Type 0
RefusesField name Refuses fields =
    OrMemory (OfFieldOr name (λ value. NamesField name (Refuses value)) (missing name) fields)

-- the same where a field that isn't there is no refusal
abbrev pub RefusesFieldOr : List ℕ → (Value → ParsingError → Type 0) → NamedValues → ParsingError → Type 0
RefusesFieldOr name Refuses fields =
    OrMemory (OfField name (λ value. NamesField name (Refuses value)) fields)

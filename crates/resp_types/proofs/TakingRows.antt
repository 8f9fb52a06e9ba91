-- Rows of values that are taken name by name.
use Rattle.std.proofs.Common.{◌≡◌, ℕ, List, ◌++◌, Option, None, Some, Result, option_map, sym, subst}
use Rattle.std.specs.Result.{IsErr, IsErrAnd}
use Rattle.resp_errors.specs.declared.parsing_error.ParsingError.{ParsingError}
use Rattle.resp_value.specs.declared.value.Value.{Value}
use Rattle.resp_from.specs.Conversion.{Converts, RefusesIf}
use Rattle.resp_from.proofs.Conversions.{Converts-err, RefusesIf-along}
use Rattle.resp_types.specs.Fields.{NamedValues, OfGiven}
use Rattle.resp_types.specs.Rows.{values_of, without_all}

-- what was found of the names while the rest is still to be taken
pub record Taking (names rest : List (List ℕ)) (start now : NamedValues) (old row : List Value)
    : Type 0 where
  pub found : option_map (λ values. old ++ values) (values_of names start)
      ≡ option_map (λ values. row ++ values) (values_of rest now)
  pub left : without_all names start ≡ without_all rest now

-- where there is no row, nothing is made of it
pub no_row : {X : Type 0} (Of : Value → X → Type 0) (row : Option Value) (r : Result X ParsingError)
    (e : ParsingError) → IsErr r × IsErrAnd r (λ d. d ≡ e) → RefusesIf e (row ≡ None)
    → Converts (OfGiven Of row) r
no_row {X} Of row r e h none = Converts-err (OfGiven Of row) r e h (RefusesIf-along e
    (λ (absent : row ≡ None) (x : X) (of : OfGiven Of row x). subst (λ o. OfGiven Of o x) absent of)
    none)

-- what is made of a row
pub of_row : {X : Type 0} (Of : Value → X → Type 0) (found : Option Value) (row : Value)
    (r : Result X ParsingError) → found ≡ Some row → Converts (Of row) r
    → Converts (OfGiven Of found) r
of_row Of found row r e h = subst (λ o. Converts (OfGiven Of o) r) (sym e) h

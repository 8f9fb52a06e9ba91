-- The first server error of a reply, its leaves read in order: elements in order, a key before its
-- value, an attribute's data before its pairs.
use Rattle.std.specs.Prelude.{List, [], ◌∷◌, Option, None, Some}
use Rattle.resp_value.specs.declared.value.Value.{Value, fold-Value}
use Rattle.resp_value.specs.declared.value.Value.TheOpen.{Value-F}
use Rattle.resp_errors.specs.declared.server_error.ServerError.{ServerError}

abbrev pub or_else : {A : Type 0} → Option A → Option A → Option A
or_else None other = other
or_else (Some x) other = Some x

abbrev pub first_some : {A : Type 0} → List (Option A) → Option A
first_some [] = None
first_some (x ∷ xs) = or_else x (first_some xs)

abbrev pub first_of_pairs : {A : Type 0} → List (Option A × Option A) → Option A
first_of_pairs [] = None
first_of_pairs (p ∷ ps) = or_else p.0 (or_else p.1 (first_of_pairs ps))

-- what a value answers whose elements answered this
abbrev pub error_step : Value-F (Option ServerError) → Option ServerError
error_step (Value-F.Array elements) = first_some elements
error_step (Value-F.Set elements) = first_some elements
error_step (Value-F.Push kind payload) = first_some payload
error_step (Value-F.Map pairs) = first_of_pairs pairs
error_step (Value-F.Attribute payload attributes) = or_else payload (first_of_pairs attributes)
error_step (Value-F.ServerError error) = Some error
error_step _ = None

abbrev pub first_error : Value → Option ServerError
first_error = fold-Value (Option ServerError) error_step

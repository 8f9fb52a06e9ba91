-- The parts of a page: its cursor, and the reply that is its list.
use Rattle.std.specs.Prelude.{◌≡◌, ℕ, Bool, true, false, List, [], ◌∷◌, Option, Some, None, Result, Ok, Err}
use Rattle.resp_errors.specs.declared.parsing_error.ParsingError.{ParsingError}
use Rattle.resp_value.specs.declared.value.Value.{Value, out-Value}
use Rattle.resp_value.specs.declared.value.Value.TheOpen.{Value-F}
use Rattle.resp_from.specs.Conversion.{IsDescribed}
use Rattle.resp_from.specs.Integers.{OfInteger, UnsignedNumber, UnsignedText}
use Rattle.resp_from.specs.Rules.{OfEach}
use Rattle.resp_from.specs.Tuples.{HasValues, First, NoMore}
use Rattle.resp_command.specs.ScanReplies.{IsListOf}

-- a reply that is a list of replies
abbrev pub is_list_like : Value-F Value → Bool
is_list_like (Value-F.Array items) = true
is_list_like (Value-F.Set items) = true
is_list_like (Value-F.Map pairs) = true
is_list_like (Value-F.BulkString bytes) = true
is_list_like Value-F.Nil = true
is_list_like _ = false

-- finding two values: refused where there are other than two
abbrev pub IsPair : Option (List Value) → Result (Value × Value) ParsingError → Type 0
IsPair found (Ok pair) = found ≡ Some (pair.0 ∷ pair.1 ∷ [])
IsPair found (Err e) = IsDescribed e × (found ≡ None)

-- the reply is a cursor and this list
pub record HasParts (reply : Value) (cursor : ℕ) (list : Value) : Type 0 where
  pub values : HasValues 2 reply (First (OfInteger (UnsignedNumber 64) (UnsignedText 64)) cursor
      (First (λ v l. v ≡ l) list NoMore))
  pub listed : is_list_like (out-Value list) ≡ true

-- the results of a list's items
pub record OfItems {X : Type 0} (n : ℕ) (Of : Value → X → Type 0) (list : Value)
    (results : List (Result X ParsingError)) : Type 0 where
  pub items : List Value
  pub listed : IsListOf list items
  pub each : OfEach n Of items results

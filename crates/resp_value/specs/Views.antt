-- A reply as a list of values, or as a list of pairs.
use Rattle.std.specs.Prelude.{◌%◌, ◌==◌, Bool, true, false, cond, List, [], ◌∷◌, length, Option, None, Some}
use Rattle.resp_value.specs.declared.value.Value.{Value, out-Value}
use Rattle.resp_value.specs.declared.value.Value.TheOpen.{Value-F}

-- a list two by two; an odd last one is left out
abbrev pub pairs : List Value → List (Value × Value)
pairs [] = []
pairs (key ∷ []) = []
pairs (key ∷ value ∷ rest) = (key, value) ∷ pairs rest

-- the values of an array, of a set, or of nothing
abbrev pub sequence_of : Value → Option (List Value)
sequence_of value = elim (out-Value value) [
  | Value-F.Array elements ↦ Some elements
  | Value-F.Set elements ↦ Some elements
  | Value-F.Nil ↦ Some []
  | _ ↦ None
]

-- the pairs of a map, or of an array of even length
abbrev pub pairs_of : Value → Option (List (Value × Value))
pairs_of value = elim (out-Value value) [
  | Value-F.Map entries ↦ Some entries
  | Value-F.Array elements ↦ cond (length elements % 2 == 0) (Some (pairs elements)) None
  | _ ↦ None
]

abbrev pub is_bulk_string : Value → Bool
is_bulk_string value = elim (out-Value value) [ Value-F.BulkString bytes ↦ true | _ ↦ false ]

abbrev pub is_array : Value → Bool
is_array value = elim (out-Value value) [ Value-F.Array elements ↦ true | _ ↦ false ]

abbrev pub is_cursor_list : List Value → Bool
is_cursor_list (cursor ∷ items ∷ []) = cond (is_bulk_string cursor) (is_array items) false
is_cursor_list _ = false

-- an array of exactly a bulk string and an array
abbrev pub is_cursor : Value → Bool
is_cursor value = elim (out-Value value) [
  | Value-F.Array elements ↦ is_cursor_list elements
  | _ ↦ false
]

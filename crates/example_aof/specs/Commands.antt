-- What stands in an append-only file: commands (RESP, "Sending commands to a Redis server").
use Rattle.std.specs.Prelude.{Bool, true, false, List, [], ◌∷◌}
use Rattle.resp_value.specs.declared.value.Value.{Value, out-Value}
use Rattle.resp_value.specs.declared.value.Value.TheOpen.{Value-F}

-- each word of a command is a bulk string
abbrev pub is_word : Value → Bool
is_word value = elim (out-Value value) [ Value-F.BulkString bytes ↦ true | _ ↦ false ]

abbrev pub has_first : List Value → Bool
has_first [] = false
has_first (name ∷ rest) = true

-- a command is an array of words, one at least
abbrev pub is_array_of_some : Value → Bool
is_array_of_some value =
    elim (out-Value value) [ Value-F.Array words ↦ has_first words | _ ↦ false ]

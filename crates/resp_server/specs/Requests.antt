-- What a server takes for a request (RESP, "Sending commands to a Redis server"): an array of at
-- least one bulk string, the name of a command and its arguments.
use Rattle.std.specs.Prelude.{Bool, false, ◌&&◌, ℕ, nat_lt, List, [], ◌∷◌, length, map}
use Rattle.std.specs.List.{list_all}
use Rattle.resp_value.specs.declared.value.Value.{Value, out-Value}
use Rattle.resp_value.specs.declared.value.Value.TheOpen.{Value-F}
use Rattle.resp_value.specs.Views.{is_bulk_string}
use Rattle.resp_args.specs.Args.{Args}

-- the bytes of a bulk string
abbrev pub bytes_of : Value → List ℕ
bytes_of value = elim (out-Value value) [ Value-F.BulkString bytes ↦ bytes | _ ↦ [] ]

-- there is a value, and each is a bulk string
abbrev pub are_words : List Value → Bool
are_words vs = nat_lt 0 (length vs) && list_all is_bulk_string vs

-- the value is a request
abbrev pub is_request : Value → Bool
is_request value = elim (out-Value value) [ Value-F.Array words ↦ are_words words | _ ↦ false ]

-- the bytes of the words
abbrev pub words_of : List Value → Args
words_of words = map bytes_of words

-- the name of a command
abbrev pub name_of : Args → List ℕ
name_of [] = []
name_of (name ∷ args) = name

-- the arguments after it
abbrev pub after_name : Args → Args
after_name [] = []
after_name (name ∷ args) = args

-- Values that are one line of text, and values that are a list (RESP, "Simple strings", "Bulk
-- strings", "Arrays"; RESP3, "Sets").
use Rattle.std.specs.Prelude.{◌≡◌, ℕ, Bool, true, false, List}
use Rattle.std.specs.Str.{IsUtf8}
use Rattle.resp_value.specs.declared.value.Value.{Value}
use Rattle.resp_value.specs.declared.value.Value.TheOpen.{Value-F}

-- a simple string or a bulk string of these bytes
abbrev pub IsLine : Value-F Value → List ℕ → Type 0
IsLine (Value-F.SimpleString line) bytes = IsUtf8 bytes × (bytes ≡ line)
IsLine (Value-F.BulkString body) bytes = bytes ≡ body
IsLine _ bytes = ⊥

-- an array or a set
abbrev pub is_list : Value-F Value → Bool
is_list (Value-F.Array elements) = true
is_list (Value-F.Set elements) = true
is_list _ = false

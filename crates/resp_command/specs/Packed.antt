-- How a command is sent: an array of bulk strings (RESP, "Sending commands to a Redis server").
use Rattle.std.specs.Prelude.{ℕ, List, [], ◌∷◌, ◌++◌, length, map, decimal}
use Rattle.std.specs.List.{flat_map}
use Rattle.resp_value.specs.declared.value.Value.{Value, Array, BulkString}
use Rattle.resp_args.specs.Args.{Args}
use Rattle.resp_parse.specs.declared.type_byte.TypeByte.TheVariants as type_byte
use Rattle.resp_parse.specs.TypeBytes.{byte_of}
use Rattle.resp_parse.specs.Lines.{crlf}

-- a mark, a length in decimal, CR LF
abbrev pub length_line : ℕ → ℕ → List ℕ
length_line mark len = mark ∷ (decimal len ++ crlf)

-- an argument: `$`, its length, CR LF, its bytes, CR LF
abbrev pub bulk : List ℕ → List ℕ
bulk arg = length_line (byte_of type_byte.BulkString) (length arg) ++ (arg ++ crlf)

-- a command: `*`, how many arguments, CR LF, and each argument
abbrev pub packed : Args → List ℕ
packed args = length_line (byte_of type_byte.Array) (length args) ++ flat_map bulk args

-- the same, but for no arguments no bytes
abbrev pub packed_or_none : Args → List ℕ
packed_or_none [] = []
packed_or_none (arg ∷ args) = packed (arg ∷ args)

-- the value that a packed command spells
abbrev pub as_value : Args → Value
as_value args = Array (map BulkString args)

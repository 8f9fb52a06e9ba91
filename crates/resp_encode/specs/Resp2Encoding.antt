-- The bytes that a server sends for a value to a client of RESP2.
use Rattle.std.specs.Prelude.{◌≡◌, ℕ, zero, suc, ◌*◌, ◌==◌, ◌||◌, Bool, true, false, cond, List, [], ◌∷◌, length, codes}
use Rattle.std.specs.Prelude.{Option, None, Some}
use Rattle.resp_value.specs.declared.value.Value.{Value, BulkString, out-Value}
use Rattle.resp_value.specs.declared.value.Value.TheOpen.{Value-F}
use Rattle.resp_value.specs.Names.{name_of_push_kind}
use Rattle.resp_errors.specs.declared.server_error.ServerError.{ServerError as Error}
use Rattle.resp_errors.specs.ServerErrors.{text_of}
use Rattle.resp_parse.specs.declared.type_byte.TypeByte.TheVariants as type_byte
use Rattle.resp_parse.specs.Grammar.{WellFormed}
use Rattle.resp_encode.specs.Resp2.{flat, resp2_of}
use Rattle.resp_encode.specs.Encoding.{given, is_line, line, body_of, aggregate, is_own_code, spelling}

-- an error's text in a line
abbrev pub resp2_error_of : Error → Option (List ℕ)
resp2_error_of error = cond (is_own_code error)
    (given (is_line (text_of error)) (line type_byte.SimpleError (text_of error))) None

-- the bytes for a value, where those for its elements are known
abbrev pub resp2_spelling : (Value → Option (List ℕ)) → Value-F Value → Option (List ℕ)
resp2_spelling spell Value-F.Nil = Some (line type_byte.BulkString (codes "-1"))
resp2_spelling spell Value-F.Okay = spelling spell Value-F.Okay
resp2_spelling spell (Value-F.Int n) = spelling spell (Value-F.Int n)
resp2_spelling spell (Value-F.SimpleString text) = spelling spell (Value-F.SimpleString text)
resp2_spelling spell (Value-F.BulkString bytes) = spelling spell (Value-F.BulkString bytes)
resp2_spelling spell (Value-F.Array elements) = spelling spell (Value-F.Array elements)
resp2_spelling spell (Value-F.Map pairs) = aggregate spell type_byte.Array (2 * length pairs) (flat pairs)
resp2_spelling spell (Value-F.Attribute payload attributes) = spell payload
resp2_spelling spell (Value-F.ServerError error) = resp2_error_of error
resp2_spelling spell (Value-F.Boolean truth) = Some (line type_byte.Integer (cond truth (codes "1") (codes "0")))
resp2_spelling spell (Value-F.Double text) = body_of type_byte.BulkString text
resp2_spelling spell (Value-F.BigNumber bytes) = body_of type_byte.BulkString bytes
resp2_spelling spell (Value-F.Set elements) = aggregate spell type_byte.Array (length elements) elements
resp2_spelling spell (Value-F.VerbatimString format text) = body_of type_byte.BulkString text
resp2_spelling spell (Value-F.Push kind payload) =
    aggregate spell type_byte.Array (suc (length payload)) (BulkString (name_of_push_kind kind) ∷ payload)

-- the bytes for a value, where d levels are left; an attribute and its data are two
abbrev pub resp2_encoding : ℕ → Value → Option (List ℕ)
resp2_encoding zero v = None
resp2_encoding (suc d) v = resp2_spelling (resp2_encoding d) (out-Value v)

-- the type bytes of RESP2: + - : $ *
abbrev pub is_resp2_byte : ℕ → Bool
is_resp2_byte byte = (byte == 43) || (byte == 45) || (byte == 58) || (byte == 36) || (byte == 42)

abbrev pub is_resp2_start : List ℕ → Bool
is_resp2_start [] = false
is_resp2_start (byte ∷ bytes) = is_resp2_byte byte

-- the bytes are read as the value's form in the types of RESP2, and as nothing else; and they begin
-- with a type byte of RESP2, as those of each value inside do, which are its own
pub record LawOfResp2Encoding (d : ℕ) (v : Value) : Type 0 where
  pub spells : (b : List ℕ) → resp2_encoding d v ≡ Some b → WellFormed d b (resp2_of v)
  pub only : (b : List ℕ) (w : Value) → resp2_encoding d v ≡ Some b → WellFormed d b w → w ≡ resp2_of v
  pub starts : (b : List ℕ) → resp2_encoding d v ≡ Some b → is_resp2_start b ≡ true

-- The one spelling of a value that a server writes (RESP3), of all that the grammar reads as it.
use Rattle.std.specs.Prelude.{◌≡◌, ℕ, zero, suc, ◌^◌, Bool, true, false, cond, not, ◌&&◌, ◌||◌, ◌==◌, nat_lt, List, []}
use Rattle.std.specs.Prelude.{◌∷◌, ◌++◌, length, codes, ℤ, pos, negsuc, Option, None, Some, decimal}
use Rattle.std.specs.Fmt.{◌++?◌, signed_decimal}
use Rattle.std.specs.List.{list_all, position_or_len}
use Rattle.std.specs.Str.{is_utf8, bytes_eq}
use Rattle.resp_value.specs.declared.value.Value.{Value, BulkString, fold-Value, out-Value}
use Rattle.resp_value.specs.declared.value.Value.TheOpen.{Value-F}
use Rattle.resp_value.specs.declared.names.PushKind.{PushKind}
use Rattle.resp_value.specs.declared.names.PushKind.TheVariants as push
use Rattle.resp_value.specs.declared.names.VerbatimFormat.{VerbatimFormat}
use Rattle.resp_value.specs.declared.names.VerbatimFormat.TheVariants as format
use Rattle.resp_value.specs.Names.{kind_named, name_of_push_kind, format_named, name_of_format}
use Rattle.resp_errors.specs.declared.server_error.ServerError.{ServerError as Error}
use Rattle.resp_errors.specs.declared.server_error.ServerError.TheVariants.{Known, Extension}
use Rattle.resp_errors.specs.ServerErrors.{is_space, kind_of_code, text_of}
use Rattle.resp_parse.specs.declared.type_byte.TypeByte.{TypeByte}
use Rattle.resp_parse.specs.declared.type_byte.TypeByte.TheVariants as type_byte
use Rattle.resp_parse.specs.TypeBytes.{byte_of}
use Rattle.resp_parse.specs.Lines.{crlf}
use Rattle.resp_parse.specs.Double.{is_double}
use Rattle.resp_parse.specs.Grammar.{is_colon, WellFormed}
use Rattle.resp_encode.specs.Resp2.{flat}

-- these bytes, where the test says yes
abbrev pub given : Bool → List ℕ → Option (List ℕ)
given true bytes = Some bytes
given false bytes = None

-- CR LF stands in the text
abbrev pub has_break : List ℕ → Bool
has_break [] = false
has_break (b ∷ []) = false
has_break (b ∷ c ∷ bs) = ((b == 13) && (c == 10)) || has_break (c ∷ bs)

-- the text may stand in a line
abbrev pub is_line : List ℕ → Bool
is_line text = is_utf8 text && not (has_break text)

-- the byte of a type, a text and CR LF
abbrev pub line : TypeByte → List ℕ → List ℕ
line kind text = byte_of kind ∷ (text ++ crlf)

-- the line of a length that the grammar reads
abbrev pub length_line : TypeByte → ℕ → Option (List ℕ)
length_line kind n = given (nat_lt n (2 ^ 63)) (line kind (decimal n))

-- a body, with the line of its length
abbrev pub body_of : TypeByte → List ℕ → Option (List ℕ)
body_of kind bytes = length_line kind (length bytes) ++? Some (bytes ++ crlf)

-- values one after another
abbrev pub joined : (Value → Option (List ℕ)) → List Value → Option (List ℕ)
joined spell [] = Some []
joined spell (v ∷ vs) = spell v ++? joined spell vs

-- the line of a count, and values
abbrev pub aggregate : (Value → Option (List ℕ)) → TypeByte → ℕ → List Value → Option (List ℕ)
aggregate spell kind n vs = length_line kind n ++? joined spell vs

abbrev pub fits_i64 : ℤ → Bool
fits_i64 (pos n) = nat_lt n (2 ^ 63)
fits_i64 (negsuc n) = nat_lt n (2 ^ 63)

abbrev pub is_none : {A : Type 0} → Option A → Bool
is_none None = true
is_none (Some x) = false

-- the code holds no space, and is no known one
abbrev pub is_new_code : List ℕ → Bool
is_new_code code = (position_or_len is_space code == length code) && is_none (kind_of_code code)

-- the code is the one of an error that is read by it
abbrev pub is_own_code : Error → Bool
is_own_code (Known kind detail) = true
is_own_code (Extension code detail) = is_new_code code

-- a line, or where CR LF stands in the text a body
abbrev pub error_text : List ℕ → Option (List ℕ)
error_text text =
    cond (has_break text) (body_of type_byte.BulkError text) (Some (line type_byte.SimpleError text))

-- an error by its text
abbrev pub error_of : Error → Option (List ℕ)
error_of error = cond (is_own_code error && is_utf8 (text_of error)) (error_text (text_of error)) None

abbrev pub is_unknown : VerbatimFormat → Bool
is_unknown (format.Unknown name) = true
is_unknown _ = false

-- the name holds no colon, and is no known format's
abbrev pub is_new_format : List ℕ → Bool
is_new_format name =
    (position_or_len is_colon name == length name) && is_unknown (format_named name)

-- the format is the one that its name names
abbrev pub is_own_format : VerbatimFormat → Bool
is_own_format (format.Unknown name) = is_new_format name
is_own_format _ = true

-- a format, a colon and a text
abbrev pub verbatim_body : VerbatimFormat → List ℕ → List ℕ
verbatim_body fmt text = name_of_format fmt ++ (58 ∷ text)

abbrev pub verbatim_of : VerbatimFormat → List ℕ → Option (List ℕ)
verbatim_of fmt text = cond (is_own_format fmt && is_utf8 (verbatim_body fmt text))
    (body_of type_byte.VerbatimString (verbatim_body fmt text)) None

abbrev pub is_other : PushKind → Bool
is_other (push.Other name) = true
is_other _ = false

-- the kind is the one that its name names, and that name is UTF-8
abbrev pub is_own_kind : PushKind → Bool
is_own_kind push.Disconnection = false
is_own_kind (push.Other name) = is_utf8 name && is_other (kind_named name)
is_own_kind _ = true

-- the name of the kind, and the data; the push of which both are empty has no elements
abbrev pub push_of : (Value → Option (List ℕ)) → PushKind → List Value → Option (List ℕ)
push_of spell (push.Other []) [] = Some (line type_byte.Push (codes "0"))
push_of spell kind payload = cond (is_own_kind kind)
    (aggregate spell type_byte.Push (suc (length payload)) (BulkString (name_of_push_kind kind) ∷ payload))
    None

-- the spelling of a value, where that of its elements is known
abbrev pub spelling : (Value → Option (List ℕ)) → Value-F Value → Option (List ℕ)
spelling spell Value-F.Nil = Some (line type_byte.Null [])
spelling spell Value-F.Okay = Some (line type_byte.SimpleString (codes "OK"))
spelling spell (Value-F.Int n) = given (fits_i64 n) (line type_byte.Integer (signed_decimal n))
spelling spell (Value-F.SimpleString text) =
    given (is_line text && not (bytes_eq text (codes "OK"))) (line type_byte.SimpleString text)
spelling spell (Value-F.BulkString bytes) = body_of type_byte.BulkString bytes
spelling spell (Value-F.Array elements) = aggregate spell type_byte.Array (length elements) elements
spelling spell (Value-F.Map pairs) = aggregate spell type_byte.Map (length pairs) (flat pairs)
spelling spell (Value-F.Attribute payload attributes) =
    aggregate spell type_byte.Attribute (length attributes) (flat attributes ++ payload ∷ [])
spelling spell (Value-F.ServerError error) = error_of error
spelling spell (Value-F.Boolean truth) = Some (line type_byte.Boolean (cond truth (codes "t") (codes "f")))
spelling spell (Value-F.Double text) = given (is_double text) (line type_byte.Double text)
spelling spell (Value-F.BigNumber bytes) = given (is_line bytes) (line type_byte.BigNumber bytes)
spelling spell (Value-F.Set elements) = aggregate spell type_byte.Set (length elements) elements
spelling spell (Value-F.VerbatimString fmt text) = verbatim_of fmt text
spelling spell (Value-F.Push kind payload) = push_of spell kind payload

-- the spelling of a value, where d levels are left
abbrev pub encoding : ℕ → Value → Option (List ℕ)
encoding zero v = None
encoding (suc d) v = spelling (encoding d) (out-Value v)

abbrev pub both_true : List (Bool × Bool) → Bool
both_true [] = true
both_true (p ∷ ps) = p.0 && p.1 && both_true ps

abbrev pub is_short_step : Value-F Bool → Bool
is_short_step (Value-F.ServerError error) = nat_lt (length (text_of error)) (2 ^ 63)
is_short_step (Value-F.VerbatimString fmt text) = nat_lt (length (verbatim_body fmt text)) (2 ^ 63)
is_short_step (Value-F.Array elements) = list_all (λ b. b) elements
is_short_step (Value-F.Set elements) = list_all (λ b. b) elements
is_short_step (Value-F.Push kind payload) =
    nat_lt (length (name_of_push_kind kind)) (2 ^ 63) && list_all (λ b. b) payload
is_short_step (Value-F.Map pairs) = both_true pairs
is_short_step (Value-F.Attribute payload attributes) = payload && both_true attributes
is_short_step _ = true

abbrev pub is_short : Value → Bool
is_short = fold-Value Bool is_short_step

-- no error's text, no verbatim string and no push's name in the value has 2^63 bytes or more
abbrev pub IsShort : Value → Type 0
IsShort v = is_short v ≡ true

-- the spelling is read as the value and as nothing else; and where there is none, no bytes spell
-- the value
pub record LawOfEncoding (d : ℕ) (v : Value) : Type 0 where
  pub spells : (b : List ℕ) → encoding d v ≡ Some b → WellFormed d b v
  pub only : (b : List ℕ) (w : Value) → encoding d v ≡ Some b → WellFormed d b w → w ≡ v
  pub none : encoding d v ≡ None → IsShort v → (b : List ℕ) → WellFormed d b v → ⊥

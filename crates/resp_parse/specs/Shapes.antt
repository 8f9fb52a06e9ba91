-- The parser's own form of what a header announces.
use Rattle.std.specs.Prelude.{◌≡◌, ℕ, ◌+◌, ◌*◌, ◌<◌, ◌^◌, cond, List, [], ◌∷◌, Result, Ok, Err}
use Rattle.std.specs.Str.{is_utf8}
use Rattle.resp_value.specs.declared.value.Value.{Value, Nil, Okay, Int, BulkString, ServerError, BigNumber, Array, Map, Set}
use Rattle.resp_value.specs.declared.value.Value.{Boolean}
use Rattle.resp_errors.specs.declared.kinds.FrameFault.{FrameFault}
use Rattle.resp_errors.specs.declared.kinds.FrameFault.TheVariants.{LineNotUtf8}
use Rattle.resp_flat.specs.declared.token.TokenKind.{TokenKind}
use Rattle.resp_flat.specs.declared.token.TokenKind.TheVariants as token
use Rattle.resp_parse.specs.declared.type_byte.TypeByte.{TypeByte}
use Rattle.resp_parse.specs.declared.shape.BodyKind.{BodyKind}
use Rattle.resp_parse.specs.declared.shape.BodyKind.TheVariants as body_kind
use Rattle.resp_parse.specs.declared.shape.LineKind.{LineKind}
use Rattle.resp_parse.specs.declared.shape.LineKind.TheVariants as line_kind
use Rattle.resp_parse.specs.declared.shape.ElementsKind.{ElementsKind}
use Rattle.resp_parse.specs.declared.shape.ElementsKind.TheVariants as elements_kind
use Rattle.resp_parse.specs.declared.shape.Shape.{Shape}
use Rattle.resp_parse.specs.declared.shape.Shape.TheVariants.{Nil as Nothing, Okay as Fine, Boolean as Truth}
use Rattle.resp_parse.specs.declared.shape.Shape.TheVariants.{Int as Integer, Simple, Line, Body}
use Rattle.resp_parse.specs.declared.shape.Shape.TheVariants.{Elements}
use Rattle.resp_parse.specs.declared.read_error.ReadError.{ReadError}
use Rattle.resp_parse.specs.declared.read_error.ReadError.TheVariants.{Memory, Fault}
use Rattle.resp_parse.specs.Grammar.{Announcement, complete, body, elements, invalid, with_valid}
use Rattle.resp_parse.specs.Grammar.{empty_push, simple, bulk_error, verbatim, attribute, push, announced}
use Rattle.resp_parse.specs.Double.{double_in}
use Rattle.resp_errors.specs.ServerErrors.{server_error}
use Rattle.resp_value.specs.Views.{pairs}

-- what a body makes
abbrev pub body_value : BodyKind → List ℕ → Result Value FrameFault
body_value body_kind.Bulk = λ bytes. Ok (BulkString bytes)
body_value body_kind.Error = λ bytes. Ok (bulk_error bytes)
body_value body_kind.Verbatim = verbatim

-- what elements make
abbrev pub elements_value : ElementsKind → List Value → Result Value FrameFault
elements_value elements_kind.Array = λ values. Ok (Array values)
elements_value elements_kind.Set = λ values. Ok (Set values)
elements_value elements_kind.Map = λ values. Ok (Map (pairs values))
elements_value elements_kind.Attribute = λ values. Ok (attribute values)
elements_value elements_kind.Push = push

-- what a text makes that is a whole line
abbrev pub line_value : LineKind → List ℕ → Result Value FrameFault
line_value line_kind.Error text = Ok (ServerError (server_error text))
line_value line_kind.Double text = double_in text
line_value line_kind.BigNumber text = Ok (BigNumber text)
line_value line_kind.EmptyPush text = Ok empty_push

-- what elements make, or nil
abbrev pub made_of : ElementsKind → List Value → Value
made_of kind values = elim (elements_value kind values) [ Ok v ↦ v | Err f ↦ Nil ]

-- the first of values that are seen, or nil
abbrev pub first_seen : List Value → Value
first_seen [] = Nil
first_seen (v ∷ vs) = v

-- how many elements follow where this many elements or pairs are announced
abbrev pub count_of : ElementsKind → ℕ → ℕ
count_of elements_kind.Map n = 2 * n
count_of elements_kind.Attribute n = 2 * n + 1
count_of elements_kind.Array n = n
count_of elements_kind.Set n = n
count_of elements_kind.Push n = n

-- the token of an aggregate
abbrev pub token_kind : ElementsKind → TokenKind
token_kind elements_kind.Array = token.Array
token_kind elements_kind.Set = token.Set
token_kind elements_kind.Map = token.Map
token_kind elements_kind.Attribute = token.Attribute
token_kind elements_kind.Push = token.Push

-- what a shape announces is a length of 63 bits
abbrev pub is_small : Shape → Type 0
is_small (Elements kind n) = n < 2 ^ 63
is_small _ = Unit {0}

-- what a shape stands for
abbrev pub announcement_of : Shape → Announcement
announcement_of Nothing = complete Nil
announcement_of Fine = complete Okay
announcement_of (Truth b) = complete (Boolean b)
announcement_of (Integer n) = complete (Int n)
announcement_of (Simple text) = complete (simple text.now)
announcement_of (Line kind text) = with_valid (line_value kind text.now) complete
announcement_of (Body kind n) = body n (body_value kind)
announcement_of (Elements kind n) = elements (count_of kind n) (elements_value kind)

-- what a line announces, for a value of this type
abbrev pub announced_in_line : TypeByte → List ℕ → Announcement
announced_in_line kind line = cond (is_utf8 line) (announced kind line) (invalid LineNotUtf8)

-- the shape is what the line announces, or the fault is; memory aside
abbrev pub Announces : Result Shape ReadError → Announcement → Type 0
Announces (Ok shape) a = a ≡ announcement_of shape
Announces (Err Memory) a = Unit {0}
Announces (Err (Fault f)) a = a ≡ invalid f

-- Values that are read back from their tokens and their text.
use Rattle.std.specs.Prelude.{◌≡◌, ℕ, zero, suc, List}
use Rattle.std.specs.List.{All, before_first}
use Rattle.std.specs.Str.{IsUtf8}
use Rattle.resp_value.specs.declared.value.Value.{Value, out-Value}
use Rattle.resp_value.specs.declared.value.Value.TheOpen.{Value-F}
use Rattle.resp_value.specs.declared.names.PushKind.{PushKind}
use Rattle.resp_value.specs.declared.names.VerbatimFormat.{VerbatimFormat}
use Rattle.resp_value.specs.Names.{kind_named, name_of_push_kind, format_named, name_of_format}
use Rattle.resp_errors.specs.declared.server_error.ServerError.{ServerError as Error}
use Rattle.resp_errors.specs.ServerErrors.{server_error, text_of as error_text}
use Rattle.resp_flat.specs.FlatReplies.{verbatim_text}
use Rattle.resp_flat.specs.Reading.{is_colon}
use Rattle.resp_flat.specs.FlatValues.{View, IsShownIn}

-- the error is the one of its text, which is UTF-8
pub record HasOwnText (error : Error) : Type 0 where
  pub utf8 : IsUtf8 (error_text error)
  pub own : server_error (error_text error) ≡ error

-- the kind is the one that its name names, and that name is UTF-8
pub record HasOwnName (kind : PushKind) : Type 0 where
  pub utf8 : IsUtf8 (name_of_push_kind kind)
  pub own : kind_named (name_of_push_kind kind) ≡ kind

-- the format is the one that its name names, and no colon stands in that name; it and the text are
-- UTF-8
pub record HasOwnFormat (format : VerbatimFormat) (text : List ℕ) : Type 0 where
  pub utf8 : IsUtf8 (verbatim_text format text)
  pub cut : before_first is_colon (verbatim_text format text) ≡ name_of_format format
  pub own : format_named (name_of_format format) ≡ format

abbrev pub BothAre : (Value → Type 0) → Value × Value → Type 0
BothAre P p = P p.0 × P p.1

-- a text is UTF-8, a name is read as what it names, and P holds of the values inside
abbrev pub IsReadableLayer : (Value → Type 0) → Value-F Value → Type 0
IsReadableLayer P (Value-F.SimpleString text) = IsUtf8 text
IsReadableLayer P (Value-F.Double text) = IsUtf8 text
IsReadableLayer P (Value-F.ServerError error) = HasOwnText error
IsReadableLayer P (Value-F.VerbatimString format text) = HasOwnFormat format text
IsReadableLayer P (Value-F.Array elements) = All P elements
IsReadableLayer P (Value-F.Set elements) = All P elements
IsReadableLayer P (Value-F.Map pairs) = All (BothAre P) pairs
IsReadableLayer P (Value-F.Attribute payload attributes) = P payload × All (BothAre P) attributes
IsReadableLayer P (Value-F.Push kind payload) = HasOwnName kind × All P payload
IsReadableLayer P _ = Unit {0}

-- so in the value and in all inside it, which are at most so many levels
unfoldable pub IsReadable : ℕ → Value → Type 0
IsReadable zero v = ⊥
IsReadable (suc d) v = IsReadableLayer (IsReadable d) (out-Value v)

-- the tokens begin with those of no readable value
abbrev pub IsNoValue : ℕ → View → Type 0
IsNoValue d view = (v : Value) → IsShownIn view v → IsReadable d v → ⊥

-- What a server says of itself, line by line (Redis, INFO).
use Rattle.std.specs.Prelude.{◌≡◌, ◌==◌, ◌||◌, ℕ, Bool, cond, List, length, Option, None, Some, Result, Ok, Err, String}
use Rattle.std.specs.Prelude.{string_bytes, string_cmp, slice_index}
use Rattle.std.specs.List.{AllZip, position_or_len, before_first, after_first, filter_map}
use Rattle.std.specs.Map.{lookup}
use Rattle.std.specs.declared.alloc.Global.{Global}
use Rattle.std.specs.BTreeMap.{is_at}
use Rattle.std.specs.Ordering.{nat_cmp}
use Rattle.std.specs.Cmp.Lexicographic.{slice_cmp}
use Rattle.std.specs.Str.Lines.{lines}
use Rattle.resp_errors.specs.declared.parsing_error.ParsingError.{ParsingError}
use Rattle.resp_errors.specs.declared.parsing_error.ParsingError.TheVariants as parsing
use Rattle.resp_value.specs.declared.value.Value.{Value, SimpleString}
use Rattle.resp_containers.specs.Keyed.{sorted, IsMerged}
use Rattle.resp_from.specs.Attributes.{stripped}
use Rattle.resp_from.specs.Texts.{OfText}
use Rattle.resp_types.specs.declared.info.InfoDict.{InfoDict}

abbrev pub is_colon : ℕ → Bool
is_colon byte = byte == 58

-- a comment, which begins with `#`
abbrev pub is_comment : List ℕ → Bool
is_comment line = slice_index line 0 == 35

abbrev pub lacks_colon : List ℕ → Bool
lacks_colon line = position_or_len is_colon line == length line

-- the key and the value of a line, which its first colon parts; none of a comment or where there is
-- no colon
abbrev pub entry_of_line : List ℕ → Option (List ℕ × List ℕ)
entry_of_line line = cond (is_comment line || lacks_colon line) None
    (Some (before_first is_colon line, after_first is_colon line))

-- the keys and values of a text, whose lines end at LF or CR LF
abbrev pub entries_of_text : List ℕ → List (List ℕ × List ℕ)
entries_of_text text = filter_map entry_of_line (lines text)

-- an entry of the dictionary is this key and this value, which is a simple string
abbrev pub IsEntry : List ℕ × List ℕ → String Global × Value → Type 0
IsEntry said entry = (string_bytes entry.0 ≡ said.0) × (entry.1 ≡ SimpleString said.1)

-- these are the entries of a text, those with equal keys merged: the last value stays
pub record HoldsText (text : List ℕ) (entries : List (String Global × Value)) : Type 0 where
  pub read : List (String Global × Value)
  pub each : AllZip IsEntry (entries_of_text text) read
  pub merged : IsMerged (sorted string_cmp) read entries

-- the entries of a dictionary, in the order of their keys
abbrev pub entries_of : InfoDict → List (String Global × Value)
entries_of dict = dict.map.entries

-- two entries have keys of the same bytes, and the same value
abbrev pub SameEntry : String Global × Value → String Global × Value → Type 0
SameEntry a b = (string_bytes b.0 ≡ string_bytes a.0) × (b.1 ≡ a.1)

-- the value of the key with these bytes
abbrev pub value_at : List ℕ → InfoDict → Option Value
value_at key dict = lookup (is_at (λ k. slice_cmp nat_cmp key (string_bytes k))) (entries_of dict)

-- what a dictionary gives of a value as a type: none where there is no value or it doesn't convert
abbrev pub Gets : {X : Type 0} → (Value → X → Type 0) → Option Value
    → Result (Option X) ParsingError → Type 0
Gets Of (Some value) (Ok (Some x)) = Of value x
Gets {X} Of (Some value) (Ok None) = (x : X) → Of value x → ⊥
Gets Of None (Ok found) = found ≡ None
Gets Of _ (Err e) = e ≡ parsing.OutOfMemory

-- the reply, without its attribute, is a text with these entries
pub record OfInfo (reply : Value) (dict : InfoDict) : Type 0 where
  pub text : List ℕ
  pub is : OfText (stripped reply) text
  pub holds : HoldsText text (entries_of dict)

-- The fields of a reply by name: names, each with its value (Redis, HGETALL).
use Rattle.std.specs.Prelude.{◌≡◌, ℕ, List, map, Option, None, Some, String, string_bytes, string_cmp}
use Rattle.std.specs.BTreeMap.{BTreeMap}
use Rattle.std.specs.Map.{lookup, remove_entry}
use Rattle.std.specs.Str.{bytes_eq}
use Rattle.std.specs.declared.alloc.Global.{Global}
use Rattle.resp_value.specs.declared.value.Value.{Value}
use Rattle.resp_containers.specs.Keyed.{sorted}
use Rattle.resp_from.specs.Conversion.{OfVia}
use Rattle.resp_from.specs.Maps.{OfMap}
use Rattle.resp_from.specs.Texts.{OfText}

-- names, each with a value
abbrev pub NamedValues : Type 0
NamedValues = List (List ℕ × Value)

-- the entries of a map, with the bytes of their keys as names
abbrev pub named : List (String Global × Value) → NamedValues
named entries = map (λ entry. (string_bytes entry.0, entry.1)) entries

-- the fields are the entries of this map
abbrev pub AreNamed : BTreeMap (String Global) Value → NamedValues → Type 0
AreNamed entries fields = fields ≡ named entries.entries

-- the reply is a map from texts to replies
abbrev pub OfEntries : Value → BTreeMap (String Global) Value → Type 0
OfEntries reply entries = OfMap (sorted string_cmp) (λ key text. OfText key (string_bytes text))
    (λ value v. v ≡ value) reply entries.entries

-- the reply has these fields, in the order of their names; of equal names the last value
abbrev pub OfFields : Value → NamedValues → Type 0
OfFields = OfVia OfEntries AreNamed

-- the value of the field of this name
abbrev pub value_of : List ℕ → NamedValues → Option Value
value_of name fields = lookup (bytes_eq name) fields

-- the fields but that of this name
abbrev pub without : List ℕ → NamedValues → NamedValues
without name fields = remove_entry (bytes_eq name) fields

-- the fact holds of the value, where there is one, and x
abbrev pub OfGiven : {X : Type 0} → (Value → X → Type 0) → Option Value → X → Type 0
OfGiven Of (Some value) x = Of value x
OfGiven Of None x = ⊥

-- the same, or there is no value and x is the default
abbrev pub OfGivenOr : {X : Type 0} → (Value → X → Type 0) → X → Option Value → X → Type 0
OfGivenOr Of default (Some value) x = Of value x
OfGivenOr Of default None x = x ≡ default

-- the field of this name is there, and the fact holds of its value and x
abbrev pub OfField : {X : Type 0} → List ℕ → (Value → X → Type 0) → NamedValues → X → Type 0
OfField name Of fields x = OfGiven Of (value_of name fields) x

-- the same, or the field isn't there and x is the default
abbrev pub OfFieldOr : {X : Type 0} → List ℕ → (Value → X → Type 0) → X → NamedValues → X → Type 0
OfFieldOr name Of default fields x = OfGivenOr Of default (value_of name fields) x

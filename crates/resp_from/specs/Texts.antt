-- Texts of replies (RESP, "Simple strings", "Bulk strings"; RESP3, "Verbatim strings").
use Rattle.std.specs.Prelude.{◌≡◌, ℕ, List, codes}
use Rattle.std.specs.Fmt.{signed_decimal}
use Rattle.std.specs.Str.{IsUtf8}
use Rattle.resp_value.specs.declared.value.Value.{Value, out-Value}
use Rattle.resp_value.specs.declared.value.Value.TheOpen.{Value-F}
use Rattle.resp_from.specs.Attributes.{stripped}

-- a reply without its attribute is this text; a number is its decimal text
abbrev pub IsText : Value-F Value → List ℕ → Type 0
IsText (Value-F.BulkString bytes) text = IsUtf8 bytes × (text ≡ bytes)
IsText (Value-F.SimpleString line) text = text ≡ line
IsText Value-F.Okay text = text ≡ codes "OK"
IsText (Value-F.VerbatimString format body) text = text ≡ body
IsText (Value-F.Int n) text = text ≡ signed_decimal n
IsText _ text = ⊥

-- the reply is this text
abbrev pub OfText : Value → List ℕ → Type 0
OfText reply text = IsText (out-Value (stripped reply)) text

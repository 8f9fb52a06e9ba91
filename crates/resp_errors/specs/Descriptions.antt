-- What an error says.
use Rattle.std.specs.Prelude.{ℕ, List, length, nat_le, if◌then◌else◌, string_bytes}
use Rattle.std.specs.Fmt.InlineText.{inline_text}
use Rattle.std.specs.Fmt.Cut.{cut_to}
use Rattle.resp_errors.specs.declared.description.Wording.{Wording}
use Rattle.resp_errors.specs.declared.description.Wording.TheVariants.{Fixed, Owned}

-- the bytes of a text
abbrev pub bytes_of : Wording → List ℕ
bytes_of (Fixed text) = inline_text text
bytes_of (Owned text) = string_bytes text

-- a fixed text as an error keeps it: whole where it has 64 bytes at most, else the characters that
-- fit before three dots
abbrev pub fitting : List ℕ → List ℕ
fitting text = if nat_le (length text) 64 then text else cut_to 64 text

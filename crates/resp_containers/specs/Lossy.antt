-- Text of any bytes (the Unicode Standard, section 3.9, "U+FFFD Substitution of Maximal Subparts").
use Rattle.std.specs.Prelude.{ℕ, List}
use Rattle.std.specs.Str.{encode_utf8_all}
use Rattle.bstr.specs.Utf8.{lossy_chars}

-- bytes as text, with U+FFFD for what is no UTF-8
abbrev pub lossy : List ℕ → List ℕ
lossy bytes = encode_utf8_all (lossy_chars bytes)

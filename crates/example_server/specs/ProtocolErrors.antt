-- What a client is told of bytes that can't be read.
use Rattle.std.specs.Prelude.{ℕ, Bool, ◌==◌, ◌||◌, List, [], ◌∷◌, ◌++◌, codes, if◌then◌else◌}
use Rattle.example_server.specs.declared.protocol_error.ProtocolError.{ProtocolError}
use Rattle.example_server.specs.declared.protocol_error.ProtocolError.TheVariants as why

abbrev pub text_of : ProtocolError → List ℕ
text_of why.LongInline = codes "too big inline request"
text_of why.LongCount = codes "too big mbulk count string"
text_of why.LongLength = codes "too big bulk count string"
text_of why.Count = codes "invalid multibulk length"
text_of why.Length = codes "invalid bulk length"
text_of (why.NoBulkString byte) = codes "expected '$', got '"
text_of why.Quotes = codes "unbalanced quotes in request"

-- a CR or LF
abbrev pub is_line_end : ℕ → Bool
is_line_end byte = (byte == 13) || (byte == 10)

-- a space for a CR or LF
abbrev pub spaced : ℕ → ℕ
spaced byte = if is_line_end byte then 32 else byte

-- the byte that stands in place of a bulk string, and a quote
abbrev pub byte_of : ProtocolError → List ℕ
byte_of (why.NoBulkString byte) = spaced byte ∷ 39 ∷ []
byte_of _ = []

-- the bytes that are written
abbrev pub told : ProtocolError → List ℕ
told e = codes "-ERR Protocol error: " ++ text_of e ++ byte_of e ++ codes "\r\n"

-- Integers as a server writes them.
use Rattle.std.specs.Prelude.{◌≡◌, ℕ, ℤ, List, Option, None, Some, FitsSigned, cond}
use Rattle.std.specs.Int.{w64}
use Rattle.std.specs.Fmt.{signed_decimal}
use Rattle.std.specs.Str.{bytes_eq}
use Rattle.resp_parse.specs.Number.{plain_number}

-- the bytes are what a server writes for the integer n of 64 bits
abbrev pub Writes : List ℕ → ℤ → Type 0
Writes bytes n = FitsSigned w64 n × (bytes ≡ signed_decimal n)

-- the integer that the bytes write, if they write one
abbrev pub ReadsInteger : List ℕ → Option ℤ → Type 0
ReadsInteger bytes (Some n) = Writes bytes n
ReadsInteger bytes None = (n : ℤ) → ¬ Writes bytes n

-- a number, if the server writes it as these bytes
abbrev pub written_back : List ℕ → Option ℤ → Option ℤ
written_back bytes (Some n) = cond (bytes_eq (signed_decimal n) bytes) (Some n) None
written_back bytes None = None

-- the integer that the bytes write, if they write one
abbrev pub integer : List ℕ → Option ℤ
integer bytes = written_back bytes (plain_number bytes)

-- What a function that appends a text answers, and what it leaves.
use Rattle.std.specs.Prelude.{◌≡◌, ℕ, ◌^◌, nat_lt, decimal, List, ◌∷◌, ◌++◌, length, take, Option, None, Some, Result}
use Rattle.std.specs.Prelude.{Ok, Err}
use Rattle.std.specs.Fmt.{◌++?◌}
use Rattle.resp_parse.specs.Lines.{crlf}
use Rattle.resp_encode.specs.Encoding.{given}
use Rattle.resp_encode.specs.declared.write_error.WriteError.{WriteError}
use Rattle.resp_encode.specs.declared.write_error.WriteError.TheVariants.{Memory, NoSpelling}

-- a byte, a text and CR LF
abbrev pub marked : ℕ → List ℕ → List ℕ
marked mark text = mark ∷ (text ++ crlf)

-- the line of a length or a count, after the byte of a type
abbrev pub counted : ℕ → ℕ → Option (List ℕ)
counted mark n = given (nat_lt n (2 ^ 63)) (marked mark (decimal n))

-- the bytes that were there come first
abbrev pub Keeps : List ℕ → List ℕ → Type 0
Keeps old new = take (length old) new ≡ old

-- the text was appended; or there is none, or memory ran out, and the bytes that were there come
-- first
unfoldable pub AppendsText : Result (Unit {0}) WriteError → Option (List ℕ) → List ℕ → List ℕ → Type 0
AppendsText (Ok done) text old new = (Some old ++? text) ≡ Some new
AppendsText (Err NoSpelling) text old new = (text ≡ None) × Keeps old new
AppendsText (Err Memory) text old new = Keeps old new

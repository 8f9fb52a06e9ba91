-- What a parser has done since it was made.
use Rattle.std.specs.Prelude.{ℕ}

-- iterations of its loops: looking at one byte of a line, taking a header or a part of a body,
-- placing one value or closing one aggregate; of these iterations, the looks at a byte of a line;
-- bytes that were fed or filled; those of them that were looked at; and calls that it has not
-- refused
pub record Counts : Type 0 where
  pub iterations : ℕ
  pub looks : ℕ
  pub received : ℕ
  pub examined : ℕ
  pub calls : ℕ

-- a parser that was made just now has done nothing
abbrev pub nothing_done : Counts
nothing_done = record { iterations = 0; looks = 0; received = 0; examined = 0; calls = 0 }

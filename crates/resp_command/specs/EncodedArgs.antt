-- How a command keeps its ordinary arguments: framed, and joined in one buffer.
use Rattle.std.specs.Prelude.{◌≡◌, ℕ, ◌+◌, ◌-◌, List, [], ◌∷◌, ◌++◌, length, map, take, decimal, slice_range}
use Rattle.std.specs.List.{flat_map}
use Rattle.resp_args.specs.Args.{Args}
use Rattle.resp_parse.specs.Lines.{crlf}
use Rattle.resp_command.specs.Packed.{bulk}
use Rattle.resp_command.specs.declared.encoded_args.Span.{Span}

-- where an argument stands whose frame starts at this place
abbrev pub span_at : ℕ → List ℕ → Span
span_at start arg =
    let from : ℕ = start + (length (decimal (length arg)) + 3) in
    record { from = from; to = from + length arg }

-- where arguments stand whose frames start at this place
abbrev pub spans_of : ℕ → Args → List Span
spans_of start [] = []
spans_of start (arg ∷ args) = span_at start arg ∷ spans_of (start + length (bulk arg)) args

-- the arguments that stand in a buffer
abbrev pub args_at : List ℕ → List Span → Args
args_at bytes spans = map (λ span. slice_range bytes span.from span.to) spans

-- the buffer is the frames of its arguments, and that is where they stand
pub record IsFramed (bytes : List ℕ) (spans : List Span) : Type 0 where
  pub bytes_are : bytes ≡ flat_map bulk (args_at bytes spans)
  pub spans_are : spans ≡ spans_of 0 (args_at bytes spans)

-- a last frame whose length starts at `start` and whose bytes start at `from`, with more bytes
abbrev pub longer : List ℕ → ℕ → ℕ → List ℕ → List ℕ
longer bytes start from more =
    let to : ℕ = length bytes - 2 in
    take start bytes ++ (decimal ((to - from) + length more)
    ++ (slice_range bytes (from - 2) to ++ (more ++ crlf)))

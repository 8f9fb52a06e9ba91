-- Lines (RESP, "RESP protocol description": the parts of a message end in CR LF).
use Rattle.std.specs.Prelude.{◌≡◌, ◌≢◌, ◌<◌, ◌≤◌, ℕ, suc, List, [], ◌∷◌, ◌++◌, length, get_or}

-- CR LF
abbrev pub crlf : List ℕ
crlf = 13 ∷ 10 ∷ []

-- no CR LF stands in the text; a CR alone and an LF alone may
abbrev pub NoBreak : List ℕ → Type 0
NoBreak text = (before after : List ℕ) → text ≢ before ++ (crlf ++ after)

-- no CR LF ends before place m
abbrev pub NoneBefore : List ℕ → ℕ → Type 0
NoneBefore bs m =
    (k : ℕ) → suc k < m → get_or bs k 0 ≡ 13 → get_or bs (suc k) 0 ≡ 10 → ⊥

-- the first n bytes are there and hold no CR LF
pub record Scanned (bs : List ℕ) (n : ℕ) : Type 0 where
  pub within : n ≤ length bs
  pub none : NoneBefore bs n

-- Replies one after another.
use Rattle.std.specs.Prelude.{ℕ, List}
use Rattle.resp_value.specs.declared.value.Value.{Value}
use Rattle.resp_parse.specs.Grammar.{WellFormed, Joined}

-- the bytes spell the values, joined in order, where d levels are left
unfoldable pub Reads : ℕ → List ℕ → List Value → Type 0
Reads d b vs = Joined (WellFormed d) b vs

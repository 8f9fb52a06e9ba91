-- Replies as truth values (RESP, "Integers", "Nulls"; RESP3, "Booleans").
use Rattle.std.specs.Prelude.{◌≡◌, ◌≢◌, ℕ, pos, Bool, true, false, List, codes}
use Rattle.std.specs.Bool.{MatchBool}
use Rattle.resp_value.specs.declared.value.Value.{Value, out-Value}
use Rattle.resp_value.specs.declared.value.Value.TheOpen.{Value-F}
use Rattle.resp_from.specs.Attributes.{stripped}

-- the text is that of a truth value
abbrev pub TruthText : List ℕ → Bool → Type 0
TruthText text truth = MatchBool truth (text ≡ codes "1") (text ≡ codes "0")

-- a reply without its attribute is this truth value
abbrev pub IsTruth : Value-F Value → Bool → Type 0
IsTruth Value-F.Nil truth = truth ≡ false
IsTruth Value-F.Okay truth = truth ≡ true
IsTruth (Value-F.Boolean b) truth = truth ≡ b
IsTruth (Value-F.Int n) truth = MatchBool truth (n ≢ pos 0) (n ≡ pos 0)
IsTruth (Value-F.SimpleString text) truth = TruthText text truth
IsTruth (Value-F.BulkString bytes) truth = TruthText bytes truth
IsTruth _ truth = ⊥

-- the reply is this truth value
abbrev pub OfBool : Value → Bool → Type 0
OfBool reply truth = IsTruth (out-Value (stripped reply)) truth

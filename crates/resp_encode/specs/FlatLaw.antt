-- A flat reply is that of one value.
use Rattle.std.specs.Prelude.{◌≡◌, ℕ, List, Some}
use Rattle.resp_value.specs.declared.value.Value.{Value}
use Rattle.resp_flat.specs.FlatReplies.{placed, tokens_of, text_of}
use Rattle.resp_encode.specs.Encoding.{encoding}

-- two values that a server can send, whose tokens and whose texts are the same, are one
abbrev pub LawOfFlatReplies : ℕ → Value → Value → Type 0
LawOfFlatReplies d v w = (b c : List ℕ) → encoding d v ≡ Some b → encoding d w ≡ Some c →
    placed 0 (tokens_of v) ≡ placed 0 (tokens_of w) → text_of v ≡ text_of w → v ≡ w

-- Replies as values that may be absent (RESP, "Nulls").
use Rattle.std.specs.Prelude.{◌≡◌, Bool, true, false, Option, None, Some}
use Rattle.resp_value.specs.declared.value.Value.{Value, out-Value}
use Rattle.resp_value.specs.declared.value.Value.TheOpen.{Value-F}
use Rattle.resp_from.specs.Attributes.{stripped}

abbrev pub is_nil : Value-F Value → Bool
is_nil Value-F.Nil = true
is_nil _ = false

-- a reply without its attribute is nothing, or is the value
abbrev pub OfOption : {X : Type 0} → (Value → X → Type 0) → Value → Option X → Type 0
OfOption Of reply None = is_nil (out-Value (stripped reply)) ≡ true
OfOption Of reply (Some x) = (is_nil (out-Value (stripped reply)) ≡ false) × Of (stripped reply) x

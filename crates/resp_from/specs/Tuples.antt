-- Replies as tuples (RESP, "Arrays"; RESP3, "Maps", "Sets").
use Rattle.std.specs.Prelude.{◌≡◌, ℕ, ◌==◌, cond, List, [], ◌∷◌, length, Option, None, Some, Result, Ok, Err}
use Rattle.std.specs.declared.alloc.Global.{Global}
use Rattle.std.specs.declared.vec.Vec.{Vec}
use Rattle.resp_errors.specs.declared.parsing_error.ParsingError.{ParsingError}
use Rattle.resp_value.specs.declared.value.Value.{Value, out-Value}
use Rattle.resp_value.specs.declared.value.Value.TheOpen.{Value-F}
use Rattle.resp_from.specs.Conversion.{RefusesIf}
use Rattle.resp_from.specs.Attributes.{stripped}

-- each key before its value
abbrev pub in_turn : List (Value × Value) → List Value
in_turn [] = []
in_turn (pair ∷ pairs) = pair.0 ∷ pair.1 ∷ in_turn pairs

-- the list, if it has n values
abbrev pub of_length : ℕ → List Value → Option (List Value)
of_length n values = cond (length values == n) (Some values) None

-- the n values that a reply without its attribute holds
abbrev pub values_of_width : ℕ → Value-F Value → Option (List Value)
values_of_width n (Value-F.Array items) = of_length n items
values_of_width n (Value-F.Set items) = of_length n items
values_of_width n (Value-F.Map pairs) = of_length n (in_turn pairs)
values_of_width n _ = None

-- the reply holds n values, and they are as the fact says
abbrev pub HasValues : ℕ → Value → (List Value → Type 0) → Type 0
HasValues n reply Are =
    elim (values_of_width n (out-Value (stripped reply))) [ Some values ↦ Are values | None ↦ ⊥ ]

-- the first value is this element, and the others are as the fact says
abbrev pub First : {X : Type 0} → (Value → X → Type 0) → X → (List Value → Type 0) → List Value
    → Type 0
First Of x Rest [] = ⊥
First Of x Rest (value ∷ values) = Of value x × Rest values

-- there are no more values
abbrev pub NoMore : List Value → Type 0
NoMore [] = Unit {0}
NoMore (value ∷ values) = ⊥

-- finding the values that a reply holds: refused where it holds another number
abbrev pub FindsValues : Option (List Value) → Result (Vec Value Global) ParsingError → Type 0
FindsValues found (Ok v) = found ≡ Some v.items
FindsValues found (Err e) = RefusesIf e (found ≡ None)

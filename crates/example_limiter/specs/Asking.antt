-- What a call does that makes a command of values and sends it.
use Rattle.std.specs.Prelude.{◌≡◌, ◌⊎◌, ℕ, List, [], ◌∷◌, Result, IsErrAnd}
use Rattle.resp_core.specs.Arguments.{Args, Appends, IsRefusal}
use Rattle.resp_core.specs.Connections.{Command, CommandQuery, Connection, new_command}
use Rattle.resp_core.specs.declared.RedisError.{RedisError}
use Rattle.resp_core.specs.declared.Value.{Value}

-- a command of this name, and then of arguments that a value gives
pub record IsNamed (name : List ℕ) (Gives : Args → Type 0) (c : Command) : Type 0 where
  pub given : Appends Gives (name ∷ []) c.args
  pub rest : c ≡ record new_command { args = c.args }

-- such a command is queried; or the value is refused, and the connection is as it was
abbrev pub Asks : {X : Type 0} → Connection → Connection → List ℕ → (Args → Type 0) → Type 0 →
    (Value → X → Type 0) → Result X RedisError → Type 0
Asks old new name Gives Refused of_value result =
    ((c : Command) × IsNamed name Gives c × CommandQuery old new c of_value result)
    ⊎ (IsErrAnd result (IsRefusal Refused) × (new ≡ old))

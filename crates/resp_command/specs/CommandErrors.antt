-- What a query is refused with, and the name of its command.
use Rattle.std.specs.Prelude.{◌≡◌, ◌⊎◌, ℕ, List, [], ◌∷◌, Result, Ok, Err}
use Rattle.std.specs.Result.{IsErrAnd}
use Rattle.resp_containers.specs.Lossy.{lossy}
use Rattle.resp_errors.specs.declared.redis_error.RedisError.{RedisError}
use Rattle.resp_value.specs.declared.value.Value.{Value}
use Rattle.resp_args.specs.Args.{Args}
use Rattle.resp_command.specs.declared.command_error.CommandError.{CommandError}
use Rattle.resp_command.specs.Command.{Command}
use Rattle.resp_command.specs.CommandQuery.{CommandQuery}
use Rattle.resp_command.specs.Connection.{Connection}

-- a command's name as text: its first argument; or none, where there was no memory for it
abbrev pub IsNameOf : Args → List ℕ → Type 0
IsNameOf [] name = name ≡ []
IsNameOf (first ∷ args) name = (name ≡ lossy first) ⊎ (name ≡ [])

-- the same answer, but for the name at an error
abbrev pub Named : {X : Type 0} → Args → Result X RedisError → Result X CommandError → Type 0
Named args (Ok x) result = result ≡ Ok x
Named args (Err e) result = IsErrAnd result (λ named. (named.error ≡ e) × IsNameOf args named.name)

-- a query over a connection, and its answer with the command's name at an error
pub record NamedQuery {X : Type 0} (old new : Connection) (c : Command)
    (of_value : Value → X → Type 0) (result : Result X CommandError) : Type 0 where
  pub answer : Result X RedisError
  pub query : CommandQuery old new c of_value answer
  pub named : Named c.args answer result

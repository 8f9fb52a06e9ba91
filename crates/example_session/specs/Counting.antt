-- What counting a key up asks of a server.
use Rattle.std.specs.Prelude.{◌≡◌, ◌+ℤ◌, ℕ, ℤ, pos, false, true, List, [], ◌∷◌, Option, None, Some, Ok, codes}
use Rattle.std.specs.Fmt.{signed_decimal}
use Rattle.resp_core.specs.Connections.{Command, CommandQuery, Connection, new_command}
use Rattle.resp_core.specs.Pipelines.{Plan, new_plan}
use Rattle.resp_core.specs.Pipelines.{PipelineQuery}
use Rattle.resp_core.specs.declared.Value.{Value}

-- the command of this name with a key
abbrev pub of_key : List ℕ → List ℕ → Command
of_key name key = record new_command { args = name ∷ key ∷ [] }

-- the transaction that sets a key to a number
abbrev pub setting : List ℕ → ℤ → Plan
setting key number = record new_plan {
  commands = (record new_command { args = codes "SET" ∷ key ∷ signed_decimal number ∷ [] }) ∷ [];
  ignored = false ∷ [];
  atomic = true;
}

-- the number that is held, and 0 where there is none
abbrev pub or_zero : Option ℤ → ℤ
or_zero None = pos 0
or_zero (Some number) = number

-- the last two things that went over the connection: the key was watched, and then read
pub record WatchedAndRead (of_watch : Value → Unit {0} → Type 0)
    (of_held : Value → Option ℤ → Type 0) (now : Connection) (key : List ℕ) (held : Option ℤ)
    : Type 0 where
  pub before : Connection
  pub watched : Connection
  pub watches : CommandQuery before watched (of_key (codes "WATCH") key) of_watch (Ok tt)
  pub reads : CommandQuery watched now (of_key (codes "GET") key) of_held (Ok held)

-- the last thing after these is a transaction that set the key to the number, which is one more
-- than it held; the transaction was done
pub record CountedUp (of_watch : Value → Unit {0} → Type 0) (of_held : Value → Option ℤ → Type 0)
    (of_done : Value → Option (Unit {0}) → Type 0) (now : Connection) (key : List ℕ) (number : ℤ)
    : Type 0 where
  pub between : Connection
  pub held : Option ℤ
  pub reads : WatchedAndRead of_watch of_held between key held
  pub one_more : number ≡ or_zero held +ℤ pos 1
  pub sets : PipelineQuery between now (setting key number) of_done (Ok (Some tt))

-- What a contract sees of a command.
use Rattle.std.specs.Prelude.{ℕ, Bool, false, List, [], Option, None}
use Rattle.resp_args.specs.Args.{Args}

pub record Command : Type 0 where
  -- its arguments in order, as they are sent
  pub args : Args
  -- whether its reply isn't waited for
  pub no_response : Bool
  -- the latest cursor that was set
  pub cursor : Option ℕ
  -- the places of its cursor arguments, in order
  pub cursors : List ℕ

-- a command without a name, whose reply is waited for, and which has no cursor
abbrev pub new_command : Command
new_command = record { args = []; no_response = false; cursor = None; cursors = [] }

-- The arguments of a command that is a value, each as bytes.
use Rattle.std.specs.Prelude.{ℕ, List, map}
use Rattle.resp_args.specs.Args.{Args}
use Rattle.resp_command.specs.Command.{Command}
use Rattle.resp_command.specs.ShownArgs.{shown_args}
use Rattle.resp_command.specs.declared.args_iter.Arg.{Arg}
use Rattle.resp_command.specs.declared.args_iter.Arg.TheVariants.{Simple, Cursor}

-- an argument's bytes, where a cursor has these
abbrev pub bytes_of : List ℕ → Arg (List ℕ) → List ℕ
bytes_of cursor (Simple bytes) = bytes
bytes_of cursor Cursor = cursor

-- the arguments, where cursors have these bytes
abbrev pub args_with : List ℕ → Command → Args
args_with cursor command = map (bytes_of cursor) (shown_args command.args command.cursors)

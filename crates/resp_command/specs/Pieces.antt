-- How a command keeps its arguments: the ordinary ones by themselves, and the places of its
-- cursor arguments, which say where these stand among them.
use Rattle.std.specs.Prelude.{◌≡◌, ℕ, ◌+◌, List, [], ◌∷◌, map, decimal, nat_lt, Option, None, Some, MatchOption}
use Rattle.std.specs.Prelude.{if◌then◌else◌}
use Rattle.resp_args.specs.Args.{Args}
use Rattle.resp_command.specs.declared.args_iter.Arg.{Arg}
use Rattle.resp_command.specs.declared.args_iter.Arg.TheVariants.{Simple, Cursor}

-- the arguments and cursors of a command, in order
abbrev pub Pieces : Type 0
Pieces = List (Arg (List ℕ))

-- the ordinary arguments
abbrev pub ordinary : Pieces → Args
ordinary [] = []
ordinary (Simple arg ∷ pieces) = arg ∷ ordinary pieces
ordinary (Cursor ∷ pieces) = ordinary pieces

-- the places of cursors among pieces whose first one has this place
abbrev pub cursor_places : ℕ → Pieces → List ℕ
cursor_places place [] = []
cursor_places place (Simple arg ∷ pieces) = cursor_places (place + 1) pieces
cursor_places place (Cursor ∷ pieces) = place ∷ cursor_places (place + 1) pieces

-- ordinary arguments with cursors at these places, where the first one has this place
abbrev pub interleaved : ℕ → List ℕ → Args → Pieces
interleaved place [] args = map Simple args
interleaved place (cursor ∷ cursors) [] = Cursor ∷ interleaved (place + 1) cursors []
interleaved place (cursor ∷ cursors) (arg ∷ args) =
    if nat_lt place cursor
    then Simple arg ∷ interleaved (place + 1) (cursor ∷ cursors) args
    else Cursor ∷ interleaved (place + 1) cursors (arg ∷ args)

-- the cursors are at their places, and all other arguments are ordinary
pub record IsInterleaved (cursors : List ℕ) (args : Args) : Type 0 where
  pub args_are : args ≡ ordinary (interleaved 0 cursors args)
  pub cursors_are : cursors ≡ cursor_places 0 (interleaved 0 cursors args)

-- what is sent of a piece, where this is the text of cursors
abbrev pub sent : List ℕ → Arg (List ℕ) → List ℕ
sent text (Simple arg) = arg
sent text Cursor = text

-- the text of the latest cursor, if one was set
abbrev pub text_of : Option ℕ → List ℕ
text_of None = []
text_of (Some cursor) = decimal cursor

-- the arguments as they are sent
abbrev pub sent_args : Option ℕ → List ℕ → Args → Args
sent_args cursor cursors args = map (sent (text_of cursor)) (interleaved 0 cursors args)

-- what is true of every command: there are cursor arguments only where a cursor was set
pub record Keeps (cursor : Option ℕ) (cursors : List ℕ) (args : Args) : Type 0 where
  pub are_interleaved : IsInterleaved cursors args
  pub unset : MatchOption cursor (cursors ≡ []) (λ c. Unit {0})

-- The arguments of a command as they are shown: each with its bytes, or as a cursor.
use Rattle.std.specs.Prelude.{◌≡◌, ⊤, ℕ, ◌+◌, ◌-◌, Bool, true, false, List, [], ◌∷◌, Some, drop, length, nat_eq}
use Rattle.std.specs.Prelude.{slice_get, if◌then◌else◌}
use Rattle.std.specs.List.{flat_map, list_any}
use Rattle.std.specs.Borrow.{Bor}
use Rattle.resp_args.specs.Args.{Args}
use Rattle.resp_command.specs.declared.args_iter.Arg.{Arg}
use Rattle.resp_command.specs.declared.args_iter.Arg.TheVariants.{Simple, Cursor}
use Rattle.resp_command.specs.declared.args_iter.ArgsIter.{ArgsIter}
use Rattle.resp_command.specs.Packed.{bulk}
use Rattle.resp_command.specs.Pieces.{Pieces, ordinary, interleaved}

-- arguments whose first one has this place: those at the cursors' places are shown as cursors
abbrev pub shown_from : ℕ → Args → List ℕ → List (Arg (List ℕ))
shown_from place [] cursors = []
shown_from place (arg ∷ args) cursors =
    (if list_any (nat_eq place) cursors then Cursor else Simple arg)
    ∷ shown_from (place + 1) args cursors

abbrev pub shown_args : Args → List ℕ → List (Arg (List ℕ))
shown_args args cursors = shown_from 0 args cursors

-- the arguments that an iterator has left
abbrev pub args_left : ArgsIter → Pieces
args_left it =
    interleaved (it.taken + it.passed) (drop it.passed it.cursors.now) (drop it.taken it.encoded_args.now)

-- the ordinary arguments, as they are shown, framed and joined
abbrev pub framed_args : Args → List ℕ → List ℕ
framed_args args cursors = flat_map bulk (ordinary (shown_args args cursors))

-- what a borrowed argument refers to
abbrev pub referent : Arg (Bor (List ℕ)) → Arg (List ℕ)
referent (Simple arg) = Simple arg.now
referent Cursor = Cursor

-- the last argument is a cursor argument: the last of the places is its place
abbrev pub EndsInCursor : Args → List ℕ → Type 0
EndsInCursor args cursors =
    slice_get cursors (length cursors - 1) ≡ Some (length args - 1)

-- equality of shown arguments, by that of their bytes
abbrev pub arg_eq : {D : Type 0} → (D → D → Bool) → Arg D → Arg D → Bool
arg_eq eq (Simple x) (Simple y) = eq x y
arg_eq eq Cursor Cursor = true
arg_eq eq _ _ = false

-- what an argument shows, if it is an ordinary one, is such
abbrev pub ShowsOnly : {D : Type 0} → (D → Type 0) → Arg D → Type 0
ShowsOnly Such (Simple x) = Such x
ShowsOnly Such Cursor = ⊤

-- the clone of a shown argument is of its form, and shows a clone of what it shows
abbrev pub IsArgClone : {D : Type 0} → (D → D → Type 0) → Arg D → Arg D → Type 0
IsArgClone IsClone (Simple x) (Simple y) = IsClone x y
IsArgClone IsClone Cursor Cursor = ⊤
IsArgClone IsClone _ _ = ⊥

-- Commands that change what a link is, and not what a cluster holds: after one, the next has to go over that link.
use Rattle.std.specs.Prelude.{ℕ, ◌||◌, Bool, false, List, [], ◌∷◌, codes, map}
use Rattle.std.specs.Str.{str_eq_ignore_ascii_case}
use Rattle.resp_args.specs.Args.{Args}
use Rattle.resp_command.specs.declared.args_iter.Arg.{Arg}
use Rattle.resp_routing.specs.CommandArgs.{bytes_of}

-- of transactions
unfoldable pub is_of_transactions : List ℕ → Bool
is_of_transactions name =
    str_eq_ignore_ascii_case name (codes "DISCARD")
    || str_eq_ignore_ascii_case name (codes "EXEC")
    || str_eq_ignore_ascii_case name (codes "MULTI")
    || str_eq_ignore_ascii_case name (codes "UNWATCH")
    || str_eq_ignore_ascii_case name (codes "WATCH")

-- of a link's mode
unfoldable pub is_of_modes : List ℕ → Bool
is_of_modes name =
    str_eq_ignore_ascii_case name (codes "ASKING")
    || str_eq_ignore_ascii_case name (codes "MONITOR")
    || str_eq_ignore_ascii_case name (codes "READONLY")
    || str_eq_ignore_ascii_case name (codes "READWRITE")

-- of who speaks over a link, and of which database
unfoldable pub is_of_sessions : List ℕ → Bool
is_of_sessions name =
    str_eq_ignore_ascii_case name (codes "AUTH")
    || str_eq_ignore_ascii_case name (codes "HELLO")
    || str_eq_ignore_ascii_case name (codes "QUIT")
    || str_eq_ignore_ascii_case name (codes "RESET")
    || str_eq_ignore_ascii_case name (codes "SELECT")

-- the first argument is such a name, in letters of either case
abbrev pub is_link_command : Args → Bool
is_link_command [] = false
is_link_command (name ∷ args) = is_of_transactions name || is_of_modes name || is_of_sessions name

-- a command of this name, in letters of either case, without arguments
abbrev pub is_alone : List ℕ → Args → Bool
is_alone name [] = false
is_alone name (word ∷ []) = str_eq_ignore_ascii_case word name
is_alone name (word ∷ arg ∷ args) = false

-- the bytes of arguments, where a cursor counts as 0
abbrev pub as_bytes : List (Arg (List ℕ)) → Args
as_bytes shown = map (bytes_of (codes "0")) shown

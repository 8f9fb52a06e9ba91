-- Commands that subscribe or unsubscribe: a server answers them by messages alone.
use Rattle.std.specs.Prelude.{◌≡◌, ℕ, ◌||◌, Bool, true, false, List, [], ◌∷◌, codes}
use Rattle.std.specs.Str.{str_eq_ignore_ascii_case}
use Rattle.resp_args.specs.Args.{Args}
use Rattle.resp_command.specs.Command.{Command}

-- the name of such a command, in letters of either case
unfoldable pub is_subscription_name : List ℕ → Bool
is_subscription_name name =
    str_eq_ignore_ascii_case name (codes "SUBSCRIBE")
    || str_eq_ignore_ascii_case name (codes "PSUBSCRIBE")
    || str_eq_ignore_ascii_case name (codes "SSUBSCRIBE")
    || str_eq_ignore_ascii_case name (codes "UNSUBSCRIBE")
    || str_eq_ignore_ascii_case name (codes "PUNSUBSCRIBE")
    || str_eq_ignore_ascii_case name (codes "SUNSUBSCRIBE")

-- the first argument is such a name
abbrev pub is_subscription : Args → Bool
is_subscription [] = false
is_subscription (name ∷ args) = is_subscription_name name

-- a reply is waited for, and none would come
abbrev pub IsUnanswered : Command → Type 0
IsUnanswered c = (is_subscription c.args ≡ true) × (c.no_response ≡ false)

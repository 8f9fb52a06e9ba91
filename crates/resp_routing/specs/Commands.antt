-- The row of a command in a table of commands.
use Rattle.std.specs.Prelude.{ℕ, Bool, nat_le, ◌&&◌, List, [], ◌∷◌, map, Option, None, Some}
use Rattle.std.specs.Prelude.{◌==◌, if◌then◌else◌}
use Rattle.std.specs.Borrow.{Bor}
use Rattle.std.specs.List.{find}
use Rattle.std.specs.Option.{option_and_then}
use Rattle.std.specs.Str.{str_eq_ignore_ascii_case}
use Rattle.resp_args.specs.Args.{Args}
use Rattle.resp_routing.specs.declared.commands.Arity.{Arity}
use Rattle.resp_routing.specs.declared.commands.Arity.TheVariants.{Exactly, AtLeast}
use Rattle.resp_routing.specs.declared.commands.CommandInfo.{CommandInfo}
use Rattle.resp_routing.specs.declared.commands.Keys.{Keys}
use Rattle.resp_routing.specs.declared.commands.Keys.TheVariants.{OfSubcommand}
use Rattle.resp_routing.specs.declared.table.TheConstants.{COMMANDS}

-- the arguments of a command, its name first
abbrev pub words : List (Bor (List ℕ)) → Args
words args = map (λ arg. arg.now) args

-- a name without the spaces after it
unfoldable pub unpadded : List ℕ → List ℕ
unpadded [] = []
unpadded (c ∷ cs) = if c == 32 then [] else c ∷ unpadded cs

-- the row is that of this command and subcommand, which is empty where there is none; the case of ASCII letters is no
-- matter
abbrev pub is_named : List ℕ → List ℕ → CommandInfo → Bool
is_named name subcommand row =
    str_eq_ignore_ascii_case (unpadded row.name) name
    && str_eq_ignore_ascii_case (unpadded row.subcommand) subcommand

-- of a command with subcommands and a word after its name, the row of that subcommand; else its own
abbrev pub of_subcommand : List CommandInfo → List ℕ → Args → CommandInfo → Keys → Option CommandInfo
of_subcommand table name (word ∷ args) row OfSubcommand = find (is_named name word) table
of_subcommand table name args row keys = Some row

-- the row of a command, if the table has it
unfoldable pub command_in : List CommandInfo → Args → Option CommandInfo
command_in table [] = None
command_in table (name ∷ args) =
    option_and_then (λ row. of_subcommand table name args row row.keys) (find (is_named name []) table)

abbrev pub command_of : Args → Option CommandInfo
command_of args = command_in COMMANDS args

-- a command of this arity may have so many arguments
abbrev pub takes : Arity → ℕ → Bool
takes (Exactly n) count = count == n
takes (AtLeast n) count = nat_le n count

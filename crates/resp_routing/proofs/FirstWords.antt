-- The first two arguments tell a command.
use Rattle.std.proofs.Common.{◌≡◌, ℕ, ◌<◌, ◌≤◌, List, [], ◌∷◌, length, get_or, Option, None, Some, option_and_then}
use Rattle.std.proofs.Common.{refl, sym, ◌∙◌, arith}
use Rattle.std.specs.Borrow.{Bor}
use Rattle.std.specs.List.{find}
use Rattle.resp_args.specs.Args.{Args}
use Rattle.resp_routing.specs.Commands.{command_in, is_named, of_subcommand, words}
use Rattle.resp_routing.specs.declared.commands.CommandInfo.{CommandInfo}
use Rattle.resp_routing.specs.declared.commands.Keys.{Keys}
use Rattle.resp_routing.specs.declared.commands.Keys.TheVariants.{NoKeys, One, Two, Three, Channels, Unspecified, OfSubcommand}

same_row : (table : List CommandInfo) (name word : List ℕ) (rest : Args) (row : CommandInfo) (keys : Keys)
    → of_subcommand table name (word ∷ rest) row keys ≡ of_subcommand table name (word ∷ []) row keys
same_row table name word rest row NoKeys = refl
same_row table name word rest row (One a) = refl
same_row table name word rest row (Two a b) = refl
same_row table name word rest row (Three a b c) = refl
same_row table name word rest row (Channels a) = refl
same_row table name word rest row Unspecified = refl
same_row table name word rest row OfSubcommand = refl

pub of_two : (table : List CommandInfo) (name word : List ℕ) (rest : Args)
    → command_in table (name ∷ word ∷ rest) ≡ command_in table (name ∷ word ∷ [])
unfolding command_in
of_two table name word rest = of_row (find (is_named name []) table)
  where
    of_row : (row : Option CommandInfo)
        → option_and_then (λ row. of_subcommand table name (word ∷ rest) row row.keys) row
        ≡ option_and_then (λ row. of_subcommand table name (word ∷ []) row row.keys) row
    of_row None = refl
    of_row (Some row) = same_row table name word rest row row.keys

pub of_none : (table : List CommandInfo) (args : List (Bor (List ℕ))) → length args < 1 → None ≡ command_in table (words args)
unfolding command_in
of_none table [] short = refl
of_none table (arg ∷ rest) short = absurd (omega arith)

pub of_name : (table : List CommandInfo) (args : List (Bor (List ℕ))) (name : Bor (List ℕ)) (row : Option CommandInfo)
    → 1 ≤ length args → length args < 2 → row ≡ find (is_named (get_or args 0 name).now []) table
    → row ≡ command_in table (words args)
unfolding command_in
of_name table [] name row long short is = absurd (omega arith)
of_name table (arg ∷ []) name row long short is = is ∙ alone (find (is_named arg.now []) table)
  where
    alone : (row : Option CommandInfo)
        → row ≡ option_and_then (λ row. of_subcommand table arg.now [] row row.keys) row
    alone None = refl
    alone (Some row) = refl
of_name table (arg ∷ next ∷ rest) name row long short is = absurd (omega arith)

pub of_words : (table : List CommandInfo) (args : List (Bor (List ℕ))) (name word : Bor (List ℕ)) (row : Option CommandInfo)
    → 2 ≤ length args → row ≡ command_in table ((get_or args 0 name).now ∷ (get_or args 1 word).now ∷ [])
    → row ≡ command_in table (words args)
of_words table [] name word row long is = absurd (omega arith)
of_words table (arg ∷ []) name word row long is = absurd (omega arith)
of_words table (arg ∷ next ∷ rest) name word row long is = is ∙ sym (of_two table arg.now next.now (words rest))

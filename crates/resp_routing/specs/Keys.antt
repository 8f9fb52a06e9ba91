-- Which arguments of a command are keys, by their positions; the name is at 0.
use Rattle.std.specs.Prelude.{◌≡◌, ◌≢◌, ℕ, ◌+◌, ◌-◌, ◌/◌, ◌%◌, Bool, true, false, ◌&&◌, ◌||◌, not, ◌==◌, nat_lt, nat_le, List, [], ◌∷◌, ◌++◌}
use Rattle.std.specs.Prelude.{length, take, drop, filter, slice_index, if◌then◌else◌, Option, None, Some, option_map}
use Rattle.std.specs.Prelude.{Result, Ok, Err, MatchResult, codes}
use Rattle.std.specs.List.{position_from, range_with_len}
use Rattle.std.specs.Str.{all_ascii_digits, str_eq_ignore_ascii_case}
use Rattle.std.specs.Str.Parse.{digits_value}
use Rattle.resp_args.specs.Args.{Args}
use Rattle.resp_routing.specs.Commands.{command_of, takes}
use Rattle.resp_routing.specs.declared.commands.BeginSearch.{BeginSearch}
use Rattle.resp_routing.specs.declared.commands.BeginSearch.TheVariants.{Index, Keyword, AnyKeyword}
use Rattle.resp_routing.specs.declared.commands.CommandInfo.{CommandInfo}
use Rattle.resp_routing.specs.declared.commands.FindKeys.{FindKeys}
use Rattle.resp_routing.specs.declared.commands.FindKeys.TheVariants.{First, AllBut, EverySecond, FirstHalf, Counted}
use Rattle.resp_routing.specs.declared.commands.KeySpec.{KeySpec}
use Rattle.resp_routing.specs.declared.commands.Keys.{Keys}
use Rattle.resp_routing.specs.declared.commands.Keys.TheVariants.{NoKeys, One, Two, Three, Channels, Unspecified, OfSubcommand}
use Rattle.resp_routing.specs.declared.commands.Keyword.{Keyword as Word}
use Rattle.resp_routing.specs.declared.commands.Keyword.TheVariants.{Store, StoreDist, Streams}
use Rattle.resp_routing.specs.declared.errors.RoutingError.{RoutingError}
use Rattle.resp_routing.specs.declared.errors.RoutingError.TheVariants.{UnknownCommand, WrongArity, MissingKeyword, BadKeyCount, TooFewArguments, OutOfMemory, Unspecified as NotSpecified}

-- positions, or why there are none
abbrev pub Positions : Type 0
Positions = Result (List ℕ) RoutingError

abbrev pub word_text : Word → List ℕ
word_text Store = codes "store"
word_text StoreDist = codes "storedist"
word_text Streams = codes "streams"

-- the position after a word: of those from this one on, and but for the last, the first that it is at
abbrev pub after_word : Word → ℕ → Args → Option ℕ
after_word word from args =
    option_map (λ place. place + 1)
    (position_from (str_eq_ignore_ascii_case (word_text word)) from (drop from (take (length args - 1) args)))

-- where a specification begins, if it does
abbrev pub beginning : BeginSearch → Args → Result (Option ℕ) RoutingError
beginning (Index place) args = Ok (Some place)
beginning (Keyword word from) args = elim (after_word word from args) [ Some place ↦ Ok (Some place) | None ↦ Err MissingKeyword ]
beginning (AnyKeyword word from) args = Ok (after_word word from args)

-- so many positions, from the first of these so many on
abbrev pub counted : ℕ → ℕ → ℕ → Positions
counted first count left =
    if nat_lt 0 count && nat_le count left then Ok (range_with_len first count) else Err TooFewArguments

-- every second position of so many, from the first on
abbrev pub every_second : ℕ → ℕ → Positions
every_second first left =
    if nat_lt 0 left then Ok (filter (λ place. (place - first) % 2 == 0) (range_with_len first left))
    else Err TooFewArguments

-- a text writes a number: up to 18 digits, the first one not 0 unless it stands alone
abbrev pub is_number : List ℕ → Bool
is_number text =
    nat_lt 0 (length text) && nat_le (length text) 18 && all_ascii_digits text
    && (not (slice_index text 0 == 48) || (length text == 1))

abbrev pub number_of : List ℕ → Option ℕ
number_of text = if is_number text then Some (digits_value 10 text) else None

-- as many positions as the number says, at least so many
abbrev pub numbered : ℕ → ℕ → ℕ → Option ℕ → Positions
numbered least first left None = Err BadKeyCount
numbered least first left (Some count) =
    if nat_lt count least then Err BadKeyCount else (if count == 0 then Ok [] else counted first count left)

-- the positions of keys, from a first one on, given the arguments from there on
abbrev pub found : FindKeys → ℕ → Args → Positions
found (First count) first rest = counted first count (length rest)
found (AllBut count) first rest = counted first (length rest - count) (length rest)
found FirstHalf first rest = counted first (length rest / 2) (length rest)
found EverySecond first rest = every_second first (length rest)
found (Counted least) first [] = Err TooFewArguments
found (Counted least) first (text ∷ rest) = numbered least (first + 1) (length rest) (number_of text)

-- the positions that a specification names
abbrev pub named : KeySpec → Args → Positions
named spec args = elim (beginning spec.begin args) [
  | Ok (Some first) ↦ found spec.find first (drop first args)
  | Ok None ↦ Ok []
  | Err e ↦ Err e
]

-- those of the one, and then those of the other
abbrev pub both : Positions → Positions → Positions
both (Ok ps) (Ok qs) = Ok (ps ++ qs)
both (Ok ps) (Err e) = Err e
both (Err e) second = Err e

-- the positions of the keys, by what the table says
unfoldable pub keys_in : Keys → Args → Positions
keys_in NoKeys args = Ok []
keys_in (One a) args = named a args
keys_in (Two a b) args = both (named a args) (named b args)
keys_in (Three a b c) args = both (both (named a args) (named b args)) (named c args)
keys_in (Channels a) args = Ok []
keys_in Unspecified args = Err NotSpecified
keys_in OfSubcommand args = Err UnknownCommand

-- a command with such keys has some
abbrev pub has_keys : Keys → Bool
has_keys NoKeys = false
has_keys (Channels a) = false
has_keys keys = true

-- the row fits so many arguments: that is asked of a command with keys alone
abbrev pub fits : CommandInfo → ℕ → Bool
fits row count = not (has_keys row.keys) || takes row.arity count

-- of a command with this row
abbrev pub keys_by : Option CommandInfo → Args → Positions
keys_by None args = Err UnknownCommand
keys_by (Some row) args = if fits row (length args) then keys_in row.keys args else Err WrongArity

-- the positions of a command's keys
abbrev pub keys_of : Args → Positions
keys_of args = keys_by (command_of args) args

-- a call appends these positions to a list, or is refused as they are; it may run out of memory, too
abbrev pub Adds : Positions → List ℕ → List ℕ → Result (Unit {0}) RoutingError → Type 0
Adds positions old new result =
    MatchResult result (λ _. both (Ok old) positions ≡ Ok new) (λ e. e ≢ OutOfMemory → positions ≡ Err e)

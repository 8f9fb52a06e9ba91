-- Where a command goes.
use Rattle.std.specs.Prelude.{◌≡◌, ◌≢◌, ◌⊎◌, ℕ, Bool, true, false, List, [], ◌∷◌, All, Contains, Option, None, Some, option_map}
use Rattle.std.specs.Prelude.{Result, Ok, Err, IsOkAnd, length, slice_get, if◌then◌else◌}
use Rattle.std.specs.List.{filter_map}
use Rattle.std.specs.Option.{option_map_or}
use Rattle.resp_args.specs.Args.{Args}
use Rattle.resp_routing.specs.Commands.{command_of, takes}
use Rattle.resp_routing.specs.Keys.{Positions, fits, keys_in, named}
use Rattle.resp_routing.specs.Slots.{IsSlot}
use Rattle.resp_routing.specs.declared.commands.Access.{Access}
use Rattle.resp_routing.specs.declared.commands.Access.TheVariants.{Reads, Writes, Neither}
use Rattle.resp_routing.specs.declared.commands.CommandInfo.{CommandInfo}
use Rattle.resp_routing.specs.declared.commands.Keys.{Keys}
use Rattle.resp_routing.specs.declared.commands.Keys.TheVariants.{Channels}
use Rattle.resp_routing.specs.declared.errors.RoutingError.{RoutingError}
use Rattle.resp_routing.specs.declared.errors.RoutingError.TheVariants.{UnknownCommand, WrongArity, CrossSlot}
use Rattle.resp_routing.specs.declared.routes.Route.{Route}
use Rattle.resp_routing.specs.declared.routes.Route.TheVariants.{Slot, Keyless}

-- the positions of what a command's slot is computed of: its keys, or its shard channels
unfoldable pub hashed_in : Keys → Args → Positions
hashed_in (Channels a) args = named a args
hashed_in keys args = keys_in keys args

-- the arguments at these positions
abbrev pub args_at : Args → List ℕ → Args
args_at args positions = filter_map (slice_get args) positions

-- the same of arguments, in place of their positions
abbrev pub hashed_args : Positions → Args → Result Args RoutingError
hashed_args (Ok positions) args = Ok (args_at args positions)
hashed_args (Err e) args = Err e

-- a command with such keys has one alone, its first argument after the name
abbrev pub IsFirstKey : Keys → Type 0
IsFirstKey keys =
    (name key : List ℕ) (rest : Args)
    → hashed_args (hashed_in keys (name ∷ key ∷ rest)) (name ∷ key ∷ rest) ≡ Ok (key ∷ [])

-- a command with this row takes so many arguments, its one key is the first of them after the name, and the slot is this
-- key's
pub record IsFirstOf (row : CommandInfo) (count : ℕ) (key : List ℕ) (slot : ℕ) : Type 0 where
  pub taken : takes row.arity count ≡ true
  pub first : IsFirstKey row.keys
  pub is_slot : IsSlot key slot

-- of a command with this row
abbrev pub hashed_by : Option CommandInfo → Args → Result Args RoutingError
hashed_by None args = Err UnknownCommand
hashed_by (Some row) args =
    if fits row (length args) then hashed_args (hashed_in row.keys args) args else Err WrongArity

-- what a command's slot is computed of
abbrev pub hashed_of : Args → Result Args RoutingError
hashed_of args = hashed_by (command_of args) args

-- there is one, and all are in this slot
pub record InOneSlot (keys : Args) (slot : ℕ) : Type 0 where
  pub some : keys ≢ []
  pub all : All (λ key. IsSlot key slot) keys

-- there is none, or all are in one slot
abbrev pub IsCommon : Args → Option ℕ → Type 0
IsCommon keys None = keys ≡ []
IsCommon keys (Some slot) = InOneSlot keys slot

-- two of them are in different slots
pub record AreApart (keys : Args) : Type 0 where
  pub one : List ℕ
  pub other : List ℕ
  pub slot : ℕ
  pub elsewhere : ℕ
  pub one_there : Contains keys one
  pub other_there : Contains keys other
  pub one_slot : IsSlot one slot
  pub other_slot : IsSlot other elsewhere
  pub differ : slot ≢ elsewhere

-- a command goes to the slot of its keys, or where its policy says if it has none
abbrev pub IsRoute : Args → Route → Type 0
IsRoute args (Slot slot) = IsOkAnd (hashed_of args) (λ keys. InOneSlot keys slot)
IsRoute args (Keyless policy) =
    (hashed_of args ≡ Ok []) × (option_map (λ row. row.request_policy) (command_of args) ≡ Some policy)

-- a command has no route: its keys aren't known, or are in several slots
abbrev pub HasNoRoute : Args → RoutingError → Type 0
HasNoRoute args e = (hashed_of args ≡ Err e) ⊎ ((e ≡ CrossSlot) × IsOkAnd (hashed_of args) AreApart)

abbrev pub reads : Access → Bool
reads Reads = true
reads Writes = false
reads Neither = false

-- the command is in the table, and only reads
abbrev pub is_readonly : Args → Bool
is_readonly args = option_map_or (λ row. reads row.access) (command_of args) false

-- A command whose keys are in several slots, as one command for each slot.
use Rattle.std.specs.Prelude.{◌≡◌, ◌≢◌, ◌⊎◌, AllPairs, ℕ, ◌<◌, List, [], ◌∷◌, ◌++◌, All, length, map, slice_index_or, Option, None, Some}
use Rattle.std.specs.Borrow.{Bor}
use Rattle.std.specs.List.{flat_map}
use Rattle.resp_args.specs.Args.{Args}
use Rattle.resp_command.specs.Command.{Command, new_command}
use Rattle.resp_routing.specs.Commands.{words}
use Rattle.resp_routing.specs.Slots.{IsSlot}
use Rattle.resp_routing.specs.declared.commands.CommandInfo.{CommandInfo}
use Rattle.resp_routing.specs.declared.commands.FindKeys.{FindKeys}
use Rattle.resp_routing.specs.declared.commands.FindKeys.TheVariants.{EverySecond}
use Rattle.resp_routing.specs.declared.commands.Keys.{Keys}
use Rattle.resp_routing.specs.declared.commands.Keys.TheVariants.{One}
use Rattle.resp_routing.specs.declared.commands.RequestPolicy.{RequestPolicy}
use Rattle.resp_routing.specs.declared.commands.RequestPolicy.TheVariants.{MultiShard}
use Rattle.resp_routing.specs.declared.commands.ResponsePolicy.{ResponsePolicy}
use Rattle.resp_routing.specs.declared.commands.ResponsePolicy.TheVariants as response
use Rattle.resp_cluster.specs.Gathered.{of_node}
use Rattle.resp_cluster.specs.declared.split.Merge.{Merge}
use Rattle.resp_cluster.specs.declared.split.Merge.TheVariants.{Values, Sum, AllSucceeded}

-- how the replies to the parts of a command are put together, where it may be split
abbrev pub merge_by : Option RequestPolicy → Option ResponsePolicy → Option Merge
merge_by (Some MultiShard) None = Some Values
merge_by (Some MultiShard) (Some response.AggSum) = Some Sum
merge_by (Some MultiShard) (Some response.AllSucceeded) = Some AllSucceeded
merge_by request reply = None

abbrev pub merge_of : CommandInfo → Option Merge
merge_of row = merge_by row.request_policy row.response_policy

-- how many arguments an entry has: its key, and its value where values stand between keys
abbrev pub width_by : FindKeys → ℕ
width_by EverySecond = 2
width_by find = 1

abbrev pub width_of : Keys → ℕ
width_of (One spec) = width_by spec.find
width_of keys = 1

-- the arguments in entries of this many
pub record AreEntries (width : ℕ) (args : Args) (entries : List Args) : Type 0 where
  pub all : flat_map (λ entry. entry) entries ≡ args
  pub wide : All (λ entry. length entry ≡ width) entries

-- the entries that are slices of arguments
abbrev pub entries_in : List (Bor (List (Bor (List ℕ)))) → List Args
entries_in slices = map (λ slice. words slice.now) slices

-- the key of an entry
abbrev pub key_of : Args → List ℕ
key_of [] = []
key_of (key ∷ rest) = key

-- the slot stands in this place, and was added at the end where it wasn't there
pub record HasAt (old : List ℕ) (slot : ℕ) (new : List ℕ) (place : ℕ) : Type 0 where
  pub inside : place < length new
  pub there : slice_index_or new place 0 ≡ slot
  pub grown : (new ≡ old) ⊎ ((new ≡ old ++ slot ∷ []) × All (λ other. other ≢ slot) old)

-- each entry is in the part of the slot of its key, and no two parts are of one slot
pub record BySlot (slots places : List ℕ) (entries : List Args) : Type 0 where
  pub whole : length places ≡ length entries
  pub known : All (λ place. place < length slots) places
  pub each : (i : ℕ) → i < length entries →
      IsSlot (key_of (slice_index_or entries i [])) (slice_index_or slots (slice_index_or places i 0) 0)
  pub apart : AllPairs (λ one other. one ≢ other) slots

-- the command of a part: the name, and then the entries of that part in order
abbrev pub command_of : List ℕ → List ℕ → List Args → ℕ → Command
command_of name places entries place = record new_command { args = name ∷ flat_map (λ entry. entry) (of_node place places entries) }

-- a command in parts, one for each slot that its keys are in
pub record IsSplit (name : List ℕ) (entries : List Args) (parts : List Command) (places : List ℕ) : Type 0 where
  pub slots : List ℕ
  pub one_each : length parts ≡ length slots
  pub by_slot : BySlot slots places entries
  pub parts_are : (i : ℕ) → i < length parts → slice_index_or parts i new_command ≡ command_of name places entries i

use Rattle.std.proofs.Common.{◌≡◌, ℕ, ◌<◌, length, slice_index_or}
use Rattle.resp_command.specs.Command.{new_command}
use Rattle.resp_cluster.specs.Splits.{command_of, entries_in}
use Rattle.resp_cluster.proofs.split.split.Given as goal

abbrev pub invariant-loop-part : goal.invariant-loop-part
invariant-loop-part l =
    (length l.commands.items ≡ l.part)
    × ((i : ℕ) → i < l.part → slice_index_or l.commands.items i new_command ≡ command_of l.name l.places.items (entries_in l.entries) i)

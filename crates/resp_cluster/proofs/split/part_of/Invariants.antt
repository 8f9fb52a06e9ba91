use Rattle.std.proofs.Common.{◌≡◌, take}
use Rattle.resp_cluster.specs.Splits.{command_of, entries_in}
use Rattle.resp_cluster.proofs.split.part_of.Given as goal

abbrev pub invariant-loop-at : goal.invariant-loop-at
invariant-loop-at l =
    l.command ≡ command_of l.name (take l.at l.places) (take l.at (entries_in l.entries)) l.part

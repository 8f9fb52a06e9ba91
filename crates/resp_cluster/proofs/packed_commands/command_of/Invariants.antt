use Rattle.std.proofs.Common.{◌≡◌, false}
use Rattle.resp_cluster.proofs.packed_commands.command_of.Given as goal

abbrev pub invariant-loop-word : goal.invariant-loop-word
invariant-loop-word l =
    goal.iterator-loop-word.can_next l.word-iterator
    × goal.iterator-loop-word.is_finite l.word-iterator
    × (l.command.no_response ≡ false)

use Rattle.std.proofs.Common.{List, ◌++◌}
use Rattle.std.specs.Vec.Iter.{into_iter_items}
use Rattle.example_server.specs.Sessions.{Runs}
use Rattle.example_server.specs.declared.reply.Reply.{Reply}
use Rattle.example_server.specs.declared.state.State.{State}
use Rattle.example_server.proofs.session.run.Given as goal

abbrev pub invariant-loop-command : goal.invariant-loop-command
invariant-loop-command l =
    (goal.iterator-loop-command).can_next l.command-iterator ×
    (goal.iterator-loop-command).is_finite l.command-iterator ×
    ((final : State) (more : List Reply) →
    Runs l.state final (into_iter_items l.command-iterator) more →
    Runs l.initial.state final l.fn.commands.items (l.replies ++ more))

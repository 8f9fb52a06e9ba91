use Rattle.std.proofs.Common.{◌≡◌, [], drop}
use Rattle.example_server.specs.Refusals.{quoted_after}
use Rattle.example_server.proofs.refusal.repeated.Given as goal

abbrev pub invariant-loop-argument : goal.invariant-loop-argument
invariant-loop-argument l =
    quoted_after l.quoted.items (drop l.argument-index l.arguments) ≡ quoted_after [] l.arguments

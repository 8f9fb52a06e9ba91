use Rattle.std.proofs.Common.{◌≡◌, ◌++◌, drop, map}
use Rattle.example_server.specs.ProtocolErrors.{spaced}
use Rattle.example_server.proofs.refusal.without_ends.Given as goal

abbrev pub invariant-loop-byte : goal.invariant-loop-byte
invariant-loop-byte l =
    l.out.items ++ map spaced (drop l.byte-index l.line) ≡ map spaced l.line

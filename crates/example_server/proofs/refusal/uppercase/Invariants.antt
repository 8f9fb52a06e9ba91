use Rattle.std.proofs.Common.{◌≡◌, ◌++◌, drop, map}
use Rattle.std.specs.Char.{to_ascii_uppercase}
use Rattle.example_server.proofs.refusal.uppercase.Given as goal

abbrev pub invariant-loop-byte : goal.invariant-loop-byte
invariant-loop-byte l =
    l.out.items ++ map to_ascii_uppercase (drop l.byte-index l.text) ≡ map to_ascii_uppercase l.text

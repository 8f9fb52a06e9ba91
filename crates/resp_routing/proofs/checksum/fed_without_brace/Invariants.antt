use Rattle.std.proofs.Common.{◌≡◌, drop}
use Rattle.resp_routing.specs.Checksums.{without_brace}
use Rattle.resp_routing.proofs.checksum.fed_without_brace.Given as goal

abbrev pub invariant-loop-byte : goal.invariant-loop-byte
invariant-loop-byte l = without_brace l.register (drop l.byte-index l.text) ≡ without_brace l.before l.text

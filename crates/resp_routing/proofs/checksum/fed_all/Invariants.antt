use Rattle.std.proofs.Common.{◌≡◌, drop}
use Rattle.resp_routing.specs.Checksums.{after_bytes}
use Rattle.resp_routing.proofs.checksum.fed_all.Given as goal

abbrev pub invariant-loop-byte : goal.invariant-loop-byte
invariant-loop-byte l = after_bytes l.register (drop l.byte-index l.bytes) ≡ after_bytes l.before l.bytes

use Rattle.std.proofs.Common.{◌≡◌, length}
use Rattle.resp_routing.specs.Checksums.{after_bytes, remainder}
use Rattle.resp_routing.proofs.checksum.crc16.Given as goal

abbrev pub invariant-loop-left : goal.invariant-loop-left
invariant-loop-left l = after_bytes l.register l.left ≡ remainder l.bytes

abbrev pub decreases-loop-left : goal.decreases-loop-left
decreases-loop-left l = length l.left

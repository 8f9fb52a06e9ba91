use Rattle.std.proofs.Common.{◌≡◌, length}
use Rattle.resp_routing.specs.Checksums.{without_brace}
use Rattle.resp_routing.proofs.checksum.crc16_without_brace.Given as goal

abbrev pub invariant-loop-left : goal.invariant-loop-left
invariant-loop-left l = without_brace l.register l.left ≡ without_brace 0 l.text

abbrev pub decreases-loop-left : goal.decreases-loop-left
decreases-loop-left l = length l.left

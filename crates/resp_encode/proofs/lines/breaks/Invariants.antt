use Rattle.std.proofs.Common.{◌≡◌, drop}
use Rattle.resp_encode.specs.Encoding.{has_break}
use Rattle.resp_encode.proofs.BreaksFound.{found}
use Rattle.resp_encode.proofs.lines.breaks.Given as goal

abbrev pub invariant-loop-byte : goal.invariant-loop-byte
invariant-loop-byte l = has_break l.text ≡ found l.after_cr (drop l.byte-index l.text)

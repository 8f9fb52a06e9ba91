use Rattle.std.proofs.Common.{rules}
use Rattle.resp_routing.proofs.WithoutBrace.{next_four}
use Rattle.resp_routing.proofs.checksum.crc16_without_brace.Goals as goal

pub loop-left-preserved : goal.loop-left-preserved
loop-left-preserved c =
    next_four c.loop-left.left.now c.loop-left.register c.fed_four-register.result _ c.in-len4-up.len_at_least
    (c.has_brace.ensures (search rules)) c.fed_four-register.ensures c.loop-left.invariant

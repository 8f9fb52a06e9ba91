use Rattle.std.proofs.Common.{sym, ◌∙◌, arith}
use Rattle.resp_routing.proofs.WithoutBrace.{all_passed, passed_at}
use Rattle.resp_routing.proofs.checksum.fed_without_brace.Goals as goal

pub loop-byte-preserved : goal.loop-byte-preserved
loop-byte-preserved c =
    passed_at c.args.text.now c.loop-byte.byte-index c.loop-byte.register c.fed-register.result c.loop-byte-test.true
    c.if-byte-eq123.false c.fed-register.ensures ∙ c.loop-byte.invariant

pub returns : goal.returns
returns c =
    sym c.loop-byte.invariant
    ∙ all_passed c.args.text.now c.loop-byte.byte-index c.loop-byte.register (omega (arith, c.loop-byte-test.false))

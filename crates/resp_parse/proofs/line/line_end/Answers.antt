use Rattle.std.proofs.Common.{arith, rules}
use Rattle.resp_parse.proofs.LineAt.{line-at}
use Rattle.resp_parse.proofs.line.line_end.Goals as goal

pub returns-then-bytes-at-eq13-clause-line : goal.returns-then-bytes-at-eq13-clause-line
returns-then-bytes-at-eq13-clause-line c = line-at c.args.bytes.now c.loop-at.at (omega arith) c.loop-at.invariant.none
    c.loop-at-test.true c.if-bytes-at-eq13.true c.if-bytes-at-eq10.true

pub loop-at-init : goal.loop-at-init
loop-at-init c = search rules

use Rattle.std.proofs.Common.{◌≡◌, arith, ap}
use Rattle.resp_parse.specs.Built.{built}
use Rattle.resp_parse.specs.Costs.{least_bytes}
use Rattle.resp_parse.proofs.Sizes.{line-small}
use Rattle.resp_parse.proofs.machine.Machine.begin.Goals as goal

pub returns-in_ok-begin_line-in-Line-clause-built_within : goal.returns-in_ok-begin_line-in-Line-clause-built_within
returns-in_ok-begin_line-in-Line-clause-built_within g c =
    let b : built c.in_ok-begin_line-in-Line.field-0 ≡ 1 = line-small c.in-Line.kind c.in-Line.text.now
    c.in_ok-begin_line-in-Line.field-0 c.in_ok-begin_line-in-Line.ensures.value in
    omega (arith, b, ap least_bytes c.begin_line.ensures.same)

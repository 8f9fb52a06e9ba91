use Rattle.std.proofs.Common.{◌-◌, refl, arith}
use Rattle.resp_parse.proofs.LineAt.{scanned-before}
use Rattle.resp_parse.proofs.line.first_line.Goals as goal

pub returns-in-Some-clause-looks : goal.returns-in-Some-clause-looks
returns-in-Some-clause-looks c =
    let before = scanned-before c.args.bytes.now (c.args.looked - 1) c.in-Some.line.len c.requires.looked
    c.in-Some.ensures.cr c.in-Some.ensures.lf in
    (record { same = refl; each = refl }, omega (arith, before), before)

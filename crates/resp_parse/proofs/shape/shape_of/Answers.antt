use Rattle.std.proofs.Common.{◌≡◌, [], codes, rules, arith}
use Rattle.std.proofs.lemmas.Bool.Decides.{nat_tests}
use Rattle.std.proofs.lemmas.Grind.{common_steps}
use Rattle.resp_parse.specs.Number.{IsNumeral}
use Rattle.resp_parse.proofs.Announced.{in_line-text, ok-announced, nil-announced, true-announced, false-announced}
use Rattle.resp_parse.proofs.shape.shape_of.Goals as goal

pub returns-in-Some-shape_of_number-clause-announced : goal.returns-in-Some-shape_of_number-clause-announced
returns-in-Some-shape_of_number-clause-announced c =
    let n : IsNumeral c.args.line.now c.in-Some.n = rw c.in-Some.is at c.requires.number in
    rw (in_line-text c.args.kind c.args.line.now n.text_is)
    (c.in-Some-shape_of_number.ensures.announced c.args.line.now n)

pub returns-in-SimpleString-clause-announced : goal.returns-in-SimpleString-clause-announced
returns-in-SimpleString-clause-announced c =
    let line : c.args.line.now ≡ codes "OK" = search rules in rw (c.in-SimpleString.is, line) ok-announced

pub returns-in-Null-clause-announced : goal.returns-in-Null-clause-announced
returns-in-Null-clause-announced c =
    let line : c.args.line.now ≡ [] = grind (arith, common_steps, nat_tests, c.is_empty.ensures, c.if-is_empty.true) in
    rw (c.in-Null.is, line) nil-announced

pub returns-in-Boolean-clause-announced : goal.returns-in-Boolean-clause-announced
returns-in-Boolean-clause-announced c =
    let line : c.args.line.now ≡ codes "t" = search rules in rw (c.in-Boolean.is, line) true-announced

pub returns-in-Boolean-2-clause-announced : goal.returns-in-Boolean-2-clause-announced
returns-in-Boolean-2-clause-announced c =
    let line : c.args.line.now ≡ codes "f" = search rules in rw (c.in-Boolean.is, line) false-announced

use Rattle.resp_parse.proofs.Announced.{in_line-text, in_line-bytes}
use Rattle.resp_parse.proofs.shape.shape_of_line.Goals as goal

pub returns-in_default-clause-announced : goal.returns-in_default-clause-announced
returns-in_default-clause-announced c = in_line-bytes c.args.kind c.args.line.now c.in_default.ensures.cases.0

pub returns-clause-announced : goal.returns-clause-announced
returns-clause-announced c = rw (in_line-text c.args.kind c.args.line.now c.in-Ok.ensures.cases.1)
    (rw c.in-Ok.ensures.cases.0 at c.shape_of_text.ensures.announced)

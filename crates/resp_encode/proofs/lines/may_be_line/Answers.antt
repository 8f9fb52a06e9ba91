use Rattle.std.proofs.Common.{not, ap, sym, ◌∙◌}
use Rattle.resp_encode.proofs.AppendedTexts.{line_of_text, line_of_bytes}
use Rattle.resp_encode.proofs.lines.may_be_line.Goals as goal

pub returns-in-Ok : goal.returns-in-Ok
returns-in-Ok c = ap not c.breaks.ensures ∙ sym (line_of_text c.args.bytes.now c.in-Ok.ensures.cases.1)

pub returns-in-Err : goal.returns-in-Err
returns-in-Err c = sym (line_of_bytes c.args.bytes.now c.in-Err.ensures.cases.0)

use Rattle.std.proofs.Common.{rules}
use Rattle.resp_encode.proofs.AppendedTexts.{given_no}
use Rattle.resp_encode.proofs.lines.write_text.Goals as goal

pub returns-then-not-may_be_line : goal.returns-then-not-may_be_line
returns-then-not-may_be_line c = search (rules, given_no)

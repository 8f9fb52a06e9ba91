use Rattle.resp_encode.proofs.AppendedTexts.{appends_then, first_exit}
use Rattle.resp_encode.proofs.lines.write_body.Goals as goal

pub returns-in_err-write_length : goal.returns-in_err-write_length
returns-in_err-write_length c = first_exit c.from_residual.result c.in_err-write_length.field-0.0 _ _ _ _
    c.from_residual.ensures.1 c.in_err-write_length.ensures

pub returns : goal.returns
returns c = appends_then c.write_content.result _ _ _ _ _ c.in_ok-write_length.ensures c.write_content.ensures

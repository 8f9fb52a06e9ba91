use Rattle.std.proofs.Common.{sym, ◌∙◌}
use Rattle.resp_encode.proofs.AppendedTexts.{choice_no, memory_exit}
use Rattle.resp_encode.proofs.texts.write_error_line.Goals as goal

pub returns-then-not-has_own_code : goal.returns-then-not-has_own_code
returns-then-not-has_own_code c = choice_no _ _ _ (sym c.has_own_code.ensures ∙ c.if-not-has_own_code.true)

pub returns-in_err-text : goal.returns-in_err-text
returns-in_err-text c = memory_exit c.from_residual.result _ _ c.from_residual.ensures.1

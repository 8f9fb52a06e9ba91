use Rattle.std.proofs.Common.{◌≡◌, true, sym, subst, ◌∙◌}
use Rattle.std.proofs.lemmas.Bool.{and_from}
use Rattle.std.specs.Str.{IsUtf8, is_utf8}
use Rattle.std.proofs.lemmas.Str.{is_utf8-from_IsUtf8}
use Rattle.resp_errors.specs.ServerErrors.{text_of}
use Rattle.resp_encode.specs.Encoding.{is_own_code, error_text}
use Rattle.resp_encode.specs.Appending.{AppendsText}
use Rattle.resp_encode.proofs.AppendedTexts.{choice_no, choice_yes, memory_exit, both_false}
use Rattle.resp_encode.proofs.texts.write_error.Goals as goal

pub returns-then-not-has_own_code : goal.returns-then-not-has_own_code
returns-then-not-has_own_code c = choice_no _ _ _
    (both_false _ _ (sym c.has_own_code.ensures ∙ c.if-not-has_own_code.true))

pub returns-in_err-text : goal.returns-in_err-text
returns-in_err-text c = memory_exit c.from_residual.result _ _ c.from_residual.ensures.1

pub returns : goal.returns
returns c =
    let same : c.as_str.result.now ≡ text_of c.args.error.now =
    (let e = c.in_ok-text.ensures in let v = c.as_str.ensures.value in cc) in
    let bytes : c.as_bytes.result.now ≡ text_of c.args.error.now = (let v = c.as_bytes.ensures.value in cc) in
    let own : is_own_code c.args.error.now ≡ true = sym c.has_own_code.ensures ∙ c.if-not-has_own_code.false in
    let utf8 : is_utf8 (text_of c.args.error.now) ≡ true = is_utf8-from_IsUtf8 _ (subst IsUtf8 same c.as_str.utf8) in
    choice_yes c.write_error_text.result _ _ _ _ (and_from _ _ own utf8)
    (subst (λ t. AppendsText c.write_error_text.result (error_text t) c.args.out.now.items
    c.write_error_text.new.out.items) bytes c.write_error_text.ensures)

use Rattle.std.proofs.Common.{◌≡◌, ◌∷◌, ◌++◌, true, sym, subst, ◌∙◌}
use Rattle.std.proofs.lemmas.Bool.{and_from}
use Rattle.std.specs.Str.{IsUtf8}
use Rattle.resp_value.specs.Names.{name_of_format}
use Rattle.resp_parse.specs.declared.type_byte.TypeByte.TheVariants as type_byte
use Rattle.resp_encode.specs.Encoding.{is_own_format, verbatim_body, body_of}
use Rattle.resp_encode.specs.Appending.{AppendsText}
use Rattle.resp_encode.proofs.OwnNames.{verbatim-utf8}
use Rattle.resp_encode.proofs.AppendedTexts.{choice_no, choice_yes, memory_exit, both_false}
use Rattle.resp_encode.proofs.texts.write_verbatim.Goals as goal

pub returns-in_err-has_own_format : goal.returns-in_err-has_own_format
returns-in_err-has_own_format c = memory_exit c.from_residual.result _ _ c.from_residual.ensures.1

pub returns-then-not-branch : goal.returns-then-not-branch
returns-then-not-branch c = choice_no _ _ _ (both_false _ _ (sym c.in_ok-has_own_format.ensures ∙ c.if-not-branch.true))

pub returns : goal.returns
returns c =
    let own : is_own_format c.args.format.now ≡ true = sym c.in_ok-has_own_format.ensures ∙ c.if-not-branch.false in
    let utf8 = verbatim-utf8 c.args.format.now c.args.text.now (subst IsUtf8 c.name.ensures c.name.utf8) c.utf8.text in
    let name : c.as_bytes.result.now ≡ name_of_format c.args.format.now =
    (let v = c.as_bytes.ensures.value in let n = c.name.ensures in cc) in
    let text : c.as_bytes-2.result.now ≡ c.args.text.now = c.as_bytes-2.ensures.value in
    let whole : c.as_bytes.result.now ++ (58 ∷ c.as_bytes-2.result.now) ≡ verbatim_body c.args.format.now
    c.args.text.now = cc in
    choice_yes c.write_verbatim_body.result _ _ _ _ (and_from _ _ own utf8)
    (subst (λ b. AppendsText c.write_verbatim_body.result (body_of type_byte.VerbatimString b) c.args.out.now.items
    c.write_verbatim_body.new.out.items) whole c.write_verbatim_body.ensures)

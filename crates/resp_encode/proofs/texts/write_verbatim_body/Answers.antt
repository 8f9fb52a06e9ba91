use Rattle.std.proofs.Common.{◌≡◌, ◌∷◌, ◌++◌, length, length-append, subst, arith, Ok, Err}
use Rattle.resp_encode.specs.Appending.{AppendsText, counted}
use Rattle.resp_encode.proofs.AppendedTexts.{appends_then, first_exit}
use Rattle.resp_encode.proofs.texts.write_verbatim_body.Goals as goal

pub returns-in_err-write_length : goal.returns-in_err-write_length
returns-in_err-write_length c =
    let size : c.in-Some.len ≡ length (c.args.name.now ++ 58 ∷ c.args.text.now) =
    (let h = c.in-Some.ensures in simp length-append (omega arith)) in
    first_exit c.from_residual.result c.in_err-write_length.field-0.0 _ _ _ _ c.from_residual.ensures.1
    (subst (λ n. AppendsText (Err c.in_err-write_length.field-0.0) (counted 61 n) c.args.out.now.items
    c.write_length.new.out.items) size c.in_err-write_length.ensures)

pub returns : goal.returns
returns c =
    let size : c.in-Some.len ≡ length (c.args.name.now ++ 58 ∷ c.args.text.now) =
    (let h = c.in-Some.ensures in simp length-append (omega arith)) in
    appends_then c.write_named_text.result _ _ _ _ _
    (subst (λ n. AppendsText (Ok c.in_ok-write_length.field-0) (counted 61 n) c.args.out.now.items
    c.write_length.new.out.items) size c.in_ok-write_length.ensures) c.write_named_text.ensures

use Rattle.std.proofs.Common.{◌≡◌, suc, Ok, Err, subst, arith}
use Rattle.resp_encode.specs.Appending.{AppendsText, counted}
use Rattle.resp_encode.proofs.AppendedTexts.{appends_refused, appends_then, first_exit}
use Rattle.resp_encode.proofs.FlatParts.{too_many_then}
use Rattle.resp_encode.proofs.flat.write_name_of.Goals as goal

pub returns-in_default : goal.returns-in_default
returns-in_default c = appends_refused _ _ (too_many_then c.args.mark (suc c.args.payload) _
    (λ less. c.in_default.ensures (omega (arith, less))))

pub returns-in_err-write_length : goal.returns-in_err-write_length
returns-in_err-write_length c =
    let size : c.in-Some.count ≡ suc c.args.payload = (let h = c.in-Some.ensures in omega arith) in
    first_exit c.from_residual.result c.in_err-write_length.field-0.0 _ _ _ _ c.from_residual.ensures.1
    (subst (λ n. AppendsText (Err c.in_err-write_length.field-0.0) (counted c.args.mark n) c.args.out.now.items
    c.write_length.new.out.items) size c.in_err-write_length.ensures)

pub returns : goal.returns
returns c =
    let size : c.in-Some.count ≡ suc c.args.payload = (let h = c.in-Some.ensures in omega arith) in
    appends_then c.write_name.result _ _ _ _ _
    (subst (λ n. AppendsText (Ok c.in_ok-write_length.field-0) (counted c.args.mark n) c.args.out.now.items
    c.write_length.new.out.items) size c.in_ok-write_length.ensures) c.write_name.ensures

use Rattle.std.proofs.Common.{rules, ◌≡◌, true, Some}
use Rattle.std.specs.Str.{is_utf8}
use Rattle.std.proofs.lemmas.Str.{is_utf8-from_IsUtf8}
use Rattle.resp_args.specs.declared.options.ProtocolVersion.TheVariants.{RESP2, RESP3}
use Rattle.resp_encode.proofs.AppendedTexts.{appends_nothing}
use Rattle.resp_encode.proofs.FlatLeaves.{appends_as, cut_is, refused_exit, uncut, verbatim2, verbatim3}
use Rattle.resp_encode.proofs.leaves.write_verbatim_in.Goals as goal

pub returns-in_err-shown : goal.returns-in_err-shown
returns-in_err-shown c = λ d. refused_exit _ _ _ _ c.from_residual.ensures.1 c.in_err-shown.ensures.0
    (uncut _ c.args.text.now c.in_err-shown.ensures.1)

pub returns-in-Some-RESP2 : goal.returns-in-Some-RESP2
returns-in-Some-RESP2 c = λ d.
    let sent : c.args.sent ≡ Some RESP2 = search rules in
    rw sent (appends_as _ _ _ _ _ (verbatim2 d c.args.text.now c.in_ok-shown.ensures.0) (search rules))

pub returns-in-Some-RESP3 : goal.returns-in-Some-RESP3
returns-in-Some-RESP3 c = λ d.
    let sent : c.args.sent ≡ Some RESP3 = search rules in
    let utf8 : is_utf8 c.args.text.now ≡ true = is_utf8-from_IsUtf8 _ c.utf8.text in
    rw sent (appends_as _ _ _ _ _ (verbatim3 d c.args.text.now utf8 c.in_ok-shown.ensures.0) (search rules))

pub returns-in-None : goal.returns-in-None
returns-in-None c = λ d. rw (c.in-None.is) (appends_as _ _ _ _ _ (cut_is _ c.args.text.now c.in_ok-shown.ensures.0)
    (appends_nothing _))

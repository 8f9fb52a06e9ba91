use Rattle.std.proofs.Common.{length}
use Rattle.resp_encode.specs.Encodings.{encoding_in}
use Rattle.resp_encode.proofs.FlatWhole.{whole_done, whole_exit, whole_left}
use Rattle.resp_encode.proofs.flat.write_whole.Goals as goal

pub returns-in_err-write_next : goal.returns-in_err-write_next
returns-in_err-write_next g c =
    whole_exit (encoding_in c.args.protocol c.args.depth) (length c.args.text.now) c.from_residual.result
    c.in_err-write_next.field-0.0 _ _ _ _ _ c.from_residual.ensures.1 c.in_err-write_next.ensures

pub returns-then-place-text : goal.returns-then-place-text
returns-then-place-text g c =
    whole_left (encoding_in c.args.protocol c.args.depth)
    (length c.args.text.now) _ _ _ _ _ c.in_ok-write_next.ensures
    (λ none end. c.if-place-text.true end)

pub returns-in-Some : goal.returns-in-Some
returns-in-Some g c =
    whole_left (encoding_in c.args.protocol c.args.depth)
    (length c.args.text.now) _ _ _ _ _ c.in_ok-write_next.ensures
    (λ none end. let more = c.in-Some.ensures.next in cc)

pub returns : goal.returns
returns g c =
    whole_done (encoding_in c.args.protocol c.args.depth)
    (length c.args.text.now) _ _ _ _ _ c.in_ok-write_next.ensures
    c.in-None.ensures.next c.if-place-text.false

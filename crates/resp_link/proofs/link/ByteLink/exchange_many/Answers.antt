use Rattle.std.proofs.Common.{arith, ◌++◌, []}
use Rattle.std.proofs.lemmas.Result.{err_from_is_err_and}
use Rattle.resp_link.proofs.Receiving.{receives_none, receives_both, cannot_receive_after, kept_after}
use Rattle.resp_link.proofs.LinkExchanges.{unsent, replied, unanswered}
use Rattle.resp_link.proofs.link.ByteLink.exchange_many.Goals as goal

pub returns-in_err-send_all-clause-exchanged : goal.returns-in_err-send_all-clause-exchanged
returns-in_err-send_all-clause-exchanged g c =
    let p = err_from_is_err_and c.from_residual.result c.from_residual.ensures.1 in
    rw (p.1, p.2) (unsent _ _ _ _ _ _ _ _ (rw c.in_err-send_all.was at c.send_all.ensures))

pub returns-in_err-skip_replies-clause-exchanged : goal.returns-in_err-skip_replies-clause-exchanged
returns-in_err-skip_replies-clause-exchanged g c =
    let p = err_from_is_err_and c.from_residual-in_err-skip_replies.result
    c.from_residual-in_err-skip_replies.ensures.1 in
    rw (p.1, p.2) (unanswered _ _ _ _ _ _ _ _ _ (rw c.in_ok-send_all.was at c.send_all.ensures)
    (cannot_receive_after 0 c.args.offset _ _ _ _ [] _ (omega arith) (receives_none _)
    (rw c.in_err-skip_replies.was at c.skip_replies.ensures.skipped)))

pub returns-in_err-replies-clause-exchanged : goal.returns-in_err-replies-clause-exchanged
returns-in_err-replies-clause-exchanged g c =
    let p = err_from_is_err_and c.from_residual-in_err-replies.result c.from_residual-in_err-replies.ensures.1 in
    let skipped = rw c.in_ok-skip_replies.was at c.skip_replies.ensures.skipped in
    rw (p.1, p.2) (unanswered _ _ _ _ _ _ _ _ _ (rw c.in_ok-send_all.was at c.send_all.ensures)
    (cannot_receive_after c.args.offset c.args.count _ _ _ _ skipped.replies _ (omega arith) skipped.received
    (rw c.in_err-replies.was at c.take_replies.ensures.replies)))

pub returns-clause-exchanged : goal.returns-clause-exchanged
returns-clause-exchanged g c =
    let skipped = rw c.in_ok-skip_replies.was at c.skip_replies.ensures.skipped in
    let kept = rw c.in_ok-replies.was at c.take_replies.ensures.replies in
    replied _ _ _ _ _ _ _ (skipped.replies ++ c.in_ok-replies.replies.items) _ _
    (rw c.in_ok-send_all.was at c.send_all.ensures)
    (receives_both c.args.offset c.args.count _ _ _ skipped.replies _ skipped.received kept)
    (kept_after c.args.offset _ _ skipped.replies c.in_ok-replies.replies.items skipped.received)

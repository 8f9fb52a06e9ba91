use Rattle.std.proofs.lemmas.Result.{err_from_is_err_and}
use Rattle.resp_link.proofs.SentSoFar.{sent_more, sending_failed}
use Rattle.resp_link.proofs.TakenParts.{piece-failed}
use Rattle.resp_link.proofs.pieces.send_piece.Goals as goal

pub loop-done-preserved : goal.loop-done-preserved
loop-done-preserved g c = sent_more _ _ _ _ _ _ c.loop-done.invariant (rw c.in_ok-done.was at c.send.ensures.sends)

pub returns-in_err-done : goal.returns-in_err-done
returns-in_err-done g c =
    let p = err_from_is_err_and c.from_residual.result c.from_residual.ensures.1 in
    rw (p.1, p.2) (piece-failed _ _ _ _
    (sending_failed _ _ _ _ _ _ _ c.loop-done.invariant (rw c.in_err-done.was at c.send.ensures.sends)))

use Rattle.std.proofs.lemmas.Result.{err_from_is_err_and}
use Rattle.resp_link.proofs.RequestsWithBodies.{request-refused, request-stopped, request-unended, request-sent}
use Rattle.resp_link.proofs.request_body.send_with_body.Goals as goal

pub returns-in_err-send_piece : goal.returns-in_err-send_piece
returns-in_err-send_piece g c =
    let p = err_from_is_err_and c.from_residual.result c.from_residual.ensures.1 in
    record {
      sends = rw (p.1, p.2) (request-refused _ _ _ _ _ _ (rw c.in_err-send_piece.was at c.send_piece.ensures));
    }

pub returns-in_err-send_body : goal.returns-in_err-send_body
returns-in_err-send_body g c =
    let p = err_from_is_err_and c.from_residual-in_err-send_body.result c.from_residual-in_err-send_body.ensures.1 in
    record {
      sends = rw (p.1, p.2) (request-stopped _ _ _ _ _ (rw c.in_ok-send_piece.was at c.send_piece.ensures) _ _ _
          c.in_err-send_body.ensures.sends);
    }

pub returns-in_err-send_all : goal.returns-in_err-send_all
returns-in_err-send_all g c =
    let p = err_from_is_err_and c.from_residual-in_err-send_all.result c.from_residual-in_err-send_all.ensures.1 in
    record {
      sends = rw (p.1, p.2) (request-unended _ _ _ _ _ (rw c.in_ok-send_piece.was at c.send_piece.ensures) _ _ _
          c.in_ok-send_body.ensures.sends _ (rw c.in_err-send_all.was at c.send_all.ensures));
    }

pub returns : goal.returns
returns g c = record {
  sends = request-sent _ _ _ _ _ (rw c.in_ok-send_piece.was at c.send_piece.ensures) _ _ _
      c.in_ok-send_body.ensures.sends (rw c.in_ok-send_all.was at c.send_all.ensures);
}

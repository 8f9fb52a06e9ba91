use Rattle.std.proofs.Common.{arith, refl}
use Rattle.std.proofs.lemmas.Grind.{common_steps}
use Rattle.std.proofs.lemmas.Result.{err_from_is_err_and}
use Rattle.resp_link.proofs.RequestsWithBodies.{sent-none, sent-refused}
use Rattle.resp_link.proofs.request_body.send_body.Goals as goal

pub loop-missing-init : goal.loop-missing-init
loop-missing-init g c = record { chunk = c.requires.chunk; so_far = sent-none _ _ _ }

pub returns-in_err-send_piece-in-Ok : goal.returns-in_err-send_piece-in-Ok
returns-in_err-send_piece-in-Ok g c =
    let p = err_from_is_err_and c.from_residual.result c.from_residual.ensures.1 in
    let bound = c.in-Ok.ensures.fills.bound in
    record {
      sends = rw (p.1, p.2) (sent-refused c.args.len _ _ _ _ c.loop-missing.missing c.loop-missing.invariant.so_far _ _ _
          _ c.in-Ok.count _ _ _ refl (grind (arith, common_steps, bound, c.min-most.ensures))
          (grind (arith, common_steps, bound, c.min-most.ensures)) (grind (arith, common_steps, bound, c.min-most.ensures))
          c.in-Ok.ensures.fills (rw c.in_err-send_piece-in-Ok.was at c.send_piece.ensures));
    }

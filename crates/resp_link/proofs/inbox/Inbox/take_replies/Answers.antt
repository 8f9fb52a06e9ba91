use Rattle.std.proofs.Common.{arith, rules, ◌≡◌, [], ◌∷◌, ◌++◌, ◌+◌}
use Rattle.std.proofs.lemmas.Result.{err_from_is_err_and}
use Rattle.resp_link.proofs.Receiving.{receives_none, receives_both, cannot_receive_after, no_room_after}
use Rattle.resp_link.proofs.inbox.Inbox.take_replies.Goals as goal

pub loop-init : goal.loop-init
loop-init g c =
    let none : c.reserve.new.self.items ≡ [] = search rules in
    record { within = omega arith; rest = c.requires; so_far = rw none (receives_none _) }

pub returns-in_err-reserve-clause-replies : goal.returns-in_err-reserve-clause-replies
returns-in_err-reserve-clause-replies g c =
    let p = err_from_is_err_and c.from_residual.result c.from_residual.ensures.1 in
    rw (p.1, p.2) (no_room_after 0 _ _ _ [] (omega arith) (receives_none _))

pub returns-in-Err-clause-replies : goal.returns-in-Err-clause-replies
returns-in-Err-clause-replies g c =
    cannot_receive_after c.loop.counter 1 _ _ _ _ _ _ (omega arith) c.loop.invariant.so_far c.in-Err.ensures.reply

pub returns-in_err-push-in-Ok-clause-replies : goal.returns-in_err-push-in-Ok-clause-replies
returns-in_err-push-in-Ok-clause-replies g c =
    let p = err_from_is_err_and c.from_residual-in_err-push-in-Ok.result c.from_residual-in_err-push-in-Ok.ensures.1 in
    rw (p.1, p.2) (no_room_after (c.loop.counter + 1) _ _ _ _ (omega arith)
    (receives_both c.loop.counter 1 _ _ _ _ _ c.loop.invariant.so_far c.in-Ok.ensures.reply))

pub loop-preserved : goal.loop-preserved
loop-preserved g c =
    let kept : c.push.new.self.items ≡ c.loop.replies.items ++ c.in-Ok.reply ∷ [] = search rules in
    record {
      within = omega arith;
      rest = c.in-Ok.ensures.rest;
      so_far = rw kept (receives_both c.loop.counter 1 _ _ _ _ _ c.loop.invariant.so_far c.in-Ok.ensures.reply);
    }

use Rattle.std.proofs.Common.{arith, [], ◌∷◌, ◌++◌}
use Rattle.std.proofs.lemmas.Result.{err_from_is_err_and}
use Rattle.resp_link.proofs.Receiving.{receives_none, receives_both, cannot_receive_after}
use Rattle.resp_link.proofs.inbox.Inbox.skip_replies.Goals as goal

pub loop-init : goal.loop-init
loop-init g c = record {
  within = omega arith;
  rest = c.requires;
  so_far = record { replies = []; received = receives_none _ };
}

pub returns-in_err-next_reply-clause-skipped : goal.returns-in_err-next_reply-clause-skipped
returns-in_err-next_reply-clause-skipped g c =
    let p = err_from_is_err_and c.from_residual.result c.from_residual.ensures.1 in
    let so_far = c.loop.invariant.so_far in
    rw (p.1, p.2) (cannot_receive_after c.loop.counter 1 _ _ _ _ so_far.replies _ (omega arith) so_far.received
    (rw c.in_err-next_reply.was at c.next_reply.ensures.reply))

pub loop-preserved : goal.loop-preserved
loop-preserved g c =
    let so_far = c.loop.invariant.so_far in
    let reply = c.in_ok-next_reply.field-0 in
    record {
      within = omega arith;
      rest = (rw c.in_ok-next_reply.was at c.next_reply.ensures.rest);
      so_far = record {
        replies = so_far.replies ++ reply ∷ [];
        received = receives_both c.loop.counter 1 _ _ _ so_far.replies (reply ∷ []) so_far.received
            (rw c.in_ok-next_reply.was at c.next_reply.ensures.reply);
      };
    }

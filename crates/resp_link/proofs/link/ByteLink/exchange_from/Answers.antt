use Rattle.std.proofs.lemmas.Result.{err_from_is_err_and}
use Rattle.resp_link.proofs.SentExchanges.{from-stopped, from-replied, from-missed}
use Rattle.resp_link.proofs.link.ByteLink.exchange_from.Goals as goal

pub returns-in_err-send_with_body : goal.returns-in_err-send_with_body
returns-in_err-send_with_body g c =
    let p = err_from_is_err_and c.from_residual.result c.from_residual.ensures.1 in
    record {
      sends = λ args is. rw (p.1, p.2) (from-stopped _ _ _ _ _ args c.args.len is _ _ 1 _
          c.in_err-send_with_body.ensures.sends);
    }

pub returns-in_err-reply : goal.returns-in_err-reply
returns-in_err-reply g c =
    let p = err_from_is_err_and c.from_residual-in_err-reply.result c.from_residual-in_err-reply.ensures.1 in
    record {
      sends = λ args is. rw (p.1, p.2) (from-missed _ _ _ _ _ args c.args.len is _ _
          c.in_ok-send_with_body.ensures.sends _ _ (rw c.in_err-reply.was at c.next_reply.ensures.reply));
    }

pub returns : goal.returns
returns g c = record {
  sends = λ args is. from-replied _ _ _ _ _ args c.args.len is _ _ c.in_ok-send_with_body.ensures.sends _ _
      (rw c.in_ok-reply.was at c.next_reply.ensures.reply);
}

use Rattle.std.proofs.lemmas.Result.{err_from_is_err_and}
use Rattle.resp_link.proofs.StreamedExchanges.{into-unsent, into-replied, into-missed}
use Rattle.resp_link.proofs.link.ByteLink.exchange_into.Goals as goal

pub returns-in_err-send_all : goal.returns-in_err-send_all
returns-in_err-send_all g c =
    let p = err_from_is_err_and c.from_residual.result c.from_residual.ensures.1 in
    record { hands = rw (p.1, p.2) (into-unsent _ _ _ _ _ 1 _ _ (rw c.in_err-send_all.was at c.send_all.ensures)) }

pub returns-in_err-streamed : goal.returns-in_err-streamed
returns-in_err-streamed g c =
    let p = err_from_is_err_and c.from_residual-in_err-streamed.result c.from_residual-in_err-streamed.ensures.1 in
    record {
      hands = rw (p.1, p.2) (into-missed _ _ _ _ _ _ _ _ (rw c.in_ok-send_all.was at c.send_all.ensures) _
          c.in_err-streamed.ensures.next);
    }

pub returns : goal.returns
returns g c = record {
  hands = into-replied _ _ _ _ _ _ _ _ (rw c.in_ok-send_all.was at c.send_all.ensures) _
      c.in_ok-streamed.ensures.next;
}

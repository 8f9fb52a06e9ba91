use Rattle.std.proofs.Common.{refl}
use Rattle.std.proofs.lemmas.Result.{err_from_is_err_and}
use Rattle.resp_link.proofs.LinkExchanges.{unsent, replied, unanswered}
use Rattle.resp_link.proofs.link.ByteLink.exchange_one.Goals as goal

pub returns-in_err-send_all : goal.returns-in_err-send_all
returns-in_err-send_all g c =
    let p = err_from_is_err_and c.from_residual.result c.from_residual.ensures.1 in
    record { exchanged = rw (p.1, p.2) (unsent _ _ _ _ _ 1 _ _ (rw c.in_err-send_all.was at c.send_all.ensures)) }

pub returns-in-Err : goal.returns-in-Err
returns-in-Err g c = record {
  exchanged = unanswered _ _ _ _ _ _ 1 _ _ (rw c.in_ok-send_all.was at c.send_all.ensures) c.in-Err.ensures.reply;
}

pub returns : goal.returns
returns g c = record {
  exchanged = replied _ _ _ _ _ _ 1 _ _ _ (rw c.in_ok-send_all.was at c.send_all.ensures) c.in-Ok.ensures.reply refl;
}

use Rattle.std.proofs.lemmas.Result.{err_from_is_err_and}
use Rattle.resp_link.proofs.StreamedExchanges.{into-unsent, into-alone}
use Rattle.resp_link.proofs.link.ByteLink.send_alone.Goals as goal

pub returns-in_err-send_all : goal.returns-in_err-send_all
returns-in_err-send_all g c =
    let p = err_from_is_err_and c.from_residual.result c.from_residual.ensures.1 in
    record {
      hands = λ b. rw (p.1, p.2) (into-unsent _ _ _ _ _ 0 _ b (rw c.in_err-send_all.was at c.send_all.ensures));
    }

pub returns : goal.returns
returns g c = record { hands = λ b. into-alone _ _ _ _ _ b (rw c.in_ok-send_all.was at c.send_all.ensures) }

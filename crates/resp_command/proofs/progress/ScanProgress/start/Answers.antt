use Rattle.std.proofs.Common.{refl}
use Rattle.resp_command.proofs.progress.ScanProgress.start.Goals as goal

pub returns : goal.returns
returns g c = record {
  batch = c.in_ok-batch.batch;
  sent = rw c.in_ok-batch.was at c.first_batch.ensures;
  stands = rw c.into_iter.ensures.rest refl;
}

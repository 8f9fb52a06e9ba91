use Rattle.resp_flat.proofs.ReadsBack.{slices-read, only_memory}
use Rattle.resp_flat.proofs.ReadsOnly.{read-flat}
use Rattle.resp_flat.proofs.ReadsReadable.{whole-readable}
use Rattle.resp_flat.proofs.flat_reply.FlatReply.to_value.Goals as goal

pub returns-in-Ok-clause-value : goal.returns-in-Ok-clause-value
returns-in-Ok-clause-value c = λ v flat readable.
    let read = slices-read 1000 c.args.self.now v _ _ c.as_slice.ensures.value c.as_slice-2.ensures.value flat
    readable in
    cc (read, c.in-Ok.ensures)

pub returns-in-Err-clause-memory : goal.returns-in-Err-clause-memory
returns-in-Err-clause-memory c = λ v flat readable.
    only_memory _ v _ _ (slices-read 1000 c.args.self.now v _ _ c.as_slice.ensures.value c.as_slice-2.ensures.value flat
    readable) c.in-Err.ensures c.refusal.ensures

pub returns-in-Ok-clause-flat : goal.returns-in-Ok-clause-flat
returns-in-Ok-clause-flat c =
    read-flat 1000 c.args.self.now _ _ c.in-Ok.value c.as_slice.ensures.value c.as_slice-2.ensures.value c.in-Ok.ensures

pub returns-in-Ok-clause-readable : goal.returns-in-Ok-clause-readable
returns-in-Ok-clause-readable c = whole-readable _ 1000 _ _ c.in-Ok.value c.in-Ok.ensures

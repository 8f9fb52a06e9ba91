use Rattle.resp_flat.proofs.ReadsBack.{only_memory}
use Rattle.resp_flat.proofs.ReadsOnly.{read-shown}
use Rattle.resp_flat.proofs.Shown.{shown-reads}
use Rattle.resp_flat.proofs.ReadsReadable.{from-readable}
use Rattle.resp_flat.proofs.flat_value.FlatValue.to_value.Goals as goal

pub returns-in-Ok-clause-value : goal.returns-in-Ok-clause-value
returns-in-Ok-clause-value c = λ v shows readable.
    let self = c.args.self.now in
    let read = shown-reads 1000 self.token.now self.others.now self.text.now v shows readable in
    cc (read, c.in-Ok.ensures)

pub returns-in-Ok-clause-shown : goal.returns-in-Ok-clause-shown
returns-in-Ok-clause-shown c =
    let self = c.args.self.now in
    read-shown 1000 self.token.now self.others.now self.text.now c.in-Ok.value c.in-Ok.ensures

pub returns-in-Err-clause-memory : goal.returns-in-Err-clause-memory
returns-in-Err-clause-memory c = λ v shows readable.
    let self = c.args.self.now in
    only_memory _ v _ _ (shown-reads 1000 self.token.now self.others.now self.text.now v shows readable)
    c.in-Err.ensures c.refusal.ensures

pub returns-in-Ok-clause-readable : goal.returns-in-Ok-clause-readable
returns-in-Ok-clause-readable c = from-readable _ 1000 _ _ c.in-Ok.value c.in-Ok.ensures

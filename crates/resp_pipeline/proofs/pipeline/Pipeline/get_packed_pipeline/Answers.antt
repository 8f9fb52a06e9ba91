use Rattle.resp_pipeline.proofs.Transactions.{packed_multi, packed_exec, transaction_bytes}
use Rattle.resp_pipeline.specs.Pipeline.{args_of_commands}
use Rattle.resp_pipeline.proofs.pipeline.Pipeline.get_packed_pipeline.Goals as goal

pub returns-clause-packed : goal.returns-clause-packed
returns-clause-packed c =
    let whole = transaction_bytes _ _ (args_of_commands c.self.inside.commands.items) packed_multi packed_exec in
    rw (
      ← c.self.view_is,
      c.if-not-self.false,
      c.in_ok-extend_from_slice-2.ensures.items,
      c.in_ok-append_commands-2.ensures.written,
      c.in_ok-extend_from_slice.ensures.items,
      c.in_ok-reserve.ensures.items,
      c.new-bytes.ensures.items,
      c.as_slice-2.ensures.value,
    ) whole

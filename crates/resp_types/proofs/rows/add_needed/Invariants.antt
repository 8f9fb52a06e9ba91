use Rattle.std.proofs.Common.{drop}
use Rattle.resp_types.specs.Rows.{texts}
use Rattle.resp_types.proofs.TakingRows.{Taking}
use Rattle.resp_types.proofs.rows.add_needed.Given as goal

abbrev pub invariant-loop-name : goal.invariant-loop-name
invariant-loop-name l = Taking (texts l.names) (texts (drop l.name-index l.names)) l.initial.fields l.fields
    l.initial.row.items l.row.items

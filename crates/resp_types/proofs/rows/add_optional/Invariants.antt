use Rattle.std.proofs.Common.{drop, ◌≡◌, ◌++◌}
use Rattle.resp_types.specs.Rows.{texts, values_or_nil}
use Rattle.resp_types.proofs.rows.add_optional.Given as goal

abbrev pub invariant-loop-name : goal.invariant-loop-name
invariant-loop-name l = l.initial.row.items ++ values_or_nil (texts l.names) l.initial.fields ≡ l.row.items
    ++ values_or_nil (texts (drop l.name-index l.names)) l.fields

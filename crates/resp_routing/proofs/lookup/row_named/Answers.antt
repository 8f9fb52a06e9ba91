use Rattle.std.proofs.Common.{refl, sym, ◌∙◌}
use Rattle.std.proofs.lemmas.Bool.{ltb-true, ltb-false}
use Rattle.std.proofs.lemmas.Option.{slice_get_past, slice_get_read}
use Rattle.resp_routing.proofs.InPlace.{row_is, row_is_other, row_is_none}
use Rattle.resp_routing.proofs.lookup.row_named.Goals as goal

pub returns-in_err-row : goal.returns-in_err-row
returns-in_err-row c = rw c.from_residual.ensures
    (row_is_none c.args.name.now c.args.subcommand.now c.args.table.now c.place_of.result c.requires c.place_of.ensures
    (slice_get_past _ _ (ltb-false _ _ (sym c.in_err-row.ensures.lookup.0))))

pub returns-then-is_named : goal.returns-then-is_named
returns-then-is_named c =
    row_is c.args.name.now c.args.subcommand.now c.args.table.now c.place_of.result c.in_ok-row.row.now c.requires c.place_of.ensures
    (slice_get_read _ _ _ _ refl (ltb-true _ _ (sym c.in_ok-row.ensures.lookup.0)) c.in_ok-row.ensures.lookup.1)
    (sym c.is_named.ensures ∙ c.if-is_named.true)

pub returns-else-is_named : goal.returns-else-is_named
returns-else-is_named c =
    row_is_other c.args.name.now c.args.subcommand.now c.args.table.now c.place_of.result c.in_ok-row.row.now c.requires c.place_of.ensures
    (slice_get_read _ _ _ _ refl (ltb-true _ _ (sym c.in_ok-row.ensures.lookup.0)) c.in_ok-row.ensures.lookup.1)
    (sym c.is_named.ensures ∙ c.if-is_named.false)

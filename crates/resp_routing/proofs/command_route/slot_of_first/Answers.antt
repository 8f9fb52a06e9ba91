use Rattle.std.proofs.Common.{refl}
use Rattle.resp_routing.specs.CommandArgs.{bytes_of}
use Rattle.resp_routing.specs.Commands.{unpadded}
use Rattle.resp_routing.specs.Places.{hash_on, place_by}
use Rattle.resp_routing.specs.declared.table.TheConstants.{COMMANDS}
use Rattle.resp_routing.proofs.CommonNames.{command_is, in_place}
use Rattle.resp_routing.proofs.FirstKey.{after_two}
use Rattle.resp_routing.proofs.command_route.slot_of_first.Goals as goal

pub returns-then-is_get : goal.returns-then-is_get
unfolding hash_on place_by unpadded
returns-then-is_get c =
    rw (← c.args_iter-shown.ensures.shown)
    (after_two (bytes_of c.args.cursor.now) _ _ _ c.in_ok-name.name.now c.in_ok-key.key.now _ c.len-count.result
    c.slot_by.result c.in_ok-name.ensures c.in_ok-key.ensures c.len-count.ensures.value
    (command_is COMMANDS c.in_ok-name.name.now c.in_ok-key.key.now 134 _ _ in_place refl refl refl (c.is_get.ensures c.if-is_get.true) refl)
    c.slot_by.ensures)

pub returns-in_ok-info_of_two : goal.returns-in_ok-info_of_two
returns-in_ok-info_of_two c =
    rw (← c.args_iter-shown.ensures.shown)
    (after_two (bytes_of c.args.cursor.now) _ _ _ c.in_ok-name.name.now c.in_ok-key.key.now _ c.len-count.result
    c.slot_by-else-is_get.result c.in_ok-name.ensures c.in_ok-key.ensures c.len-count.ensures.value c.in_ok-info_of_two.ensures c.slot_by-else-is_get.ensures)

use Rattle.std.proofs.Common.{refl}
use Rattle.resp_routing.specs.Commands.{unpadded}
use Rattle.resp_routing.specs.Places.{hash_on, place_by}
use Rattle.resp_routing.specs.declared.table.TheConstants.{COMMANDS}
use Rattle.resp_routing.proofs.CommonNames.{command_is, in_place}
use Rattle.resp_routing.proofs.lookup.info_of_two.Goals as goal

pub info_in-requires : goal.info_in-requires
info_in-requires c = in_place

pub returns-then-is_get : goal.returns-then-is_get
unfolding hash_on place_by unpadded
returns-then-is_get c =
    command_is COMMANDS c.args.name.now c.args.word.now 134 _ _ in_place refl refl refl (c.is_get.ensures c.if-is_get.true) refl

pub returns-then-is_set : goal.returns-then-is_set
unfolding hash_on place_by unpadded
returns-then-is_set c =
    command_is COMMANDS c.args.name.now c.args.word.now 265 _ _ in_place refl refl refl (c.is_set.ensures c.if-is_set.true) refl

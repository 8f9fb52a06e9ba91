use Rattle.std.proofs.Common.{◌≡◌, ◌∙◌, arith}
use Rattle.std.specs.List.{slice_get}
use Rattle.std.specs.Option.{option_copied}
use Rattle.std.proofs.lemmas.Grind.{common_steps}
use Rattle.std.proofs.lemmas.Option.{gets}
use Rattle.resp_cluster.proofs.Moves.{range_there}
use Rattle.resp_cluster.proofs.slot_map.SlotMap.range_at.Goals as goal

pub returns : goal.returns
returns c = there ∙ range_there c.args.slot c.args.self.now c.place_of.result c.place_of.ensures
  where
    there : option_copied c.get.result ≡ slice_get c.args.self.now c.place_of.result
    there =
        let deref = c.deref.ensures.value in
        let view = c.self.view_is in
        grind (arith, common_steps, gets)

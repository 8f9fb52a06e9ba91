use Rattle.std.proofs.Common.{◌≡◌, ◌∙◌, sym, arith, None, Some}
use Rattle.std.specs.List.{slice_get}
use Rattle.std.proofs.lemmas.Grind.{common_steps}
use Rattle.std.proofs.lemmas.Option.{gets}
use Rattle.resp_cluster.proofs.Moves.{own_there, own_elsewhere, own_nowhere}
use Rattle.resp_cluster.proofs.slot_map.SlotMap.own_place.Goals as goal

pub returns-in_err-range : goal.returns-in_err-range
returns-in_err-range c = rw c.from_residual.ensures (own_nowhere c.args.slot c.args.self.now c.place_of-place.result
    c.place_of-place.ensures is)
  where
    is : slice_get c.args.self.now c.place_of-place.result ≡ None
    is =
        let deref = c.deref.ensures.value in
        let view = c.self.view_is in
        grind (arith, common_steps, gets)

pub returns-then-is_of : goal.returns-then-is_of
returns-then-is_of c = own_there c.args.slot c.args.self.now c.place_of-place.result c.place_of-place.ensures
    c.in_ok-range.range.now is (sym c.is_of.ensures ∙ c.if-is_of.true)
  where
    is : slice_get c.args.self.now c.place_of-place.result ≡ Some c.in_ok-range.range.now
    is =
        let deref = c.deref.ensures.value in
        let view = c.self.view_is in
        grind (arith, common_steps, gets)

pub returns-else-is_of : goal.returns-else-is_of
returns-else-is_of c = own_elsewhere c.args.slot c.args.self.now c.place_of-place.result c.place_of-place.ensures
    c.in_ok-range.range.now is (sym c.is_of.ensures ∙ c.if-is_of.false)
  where
    is : slice_get c.args.self.now c.place_of-place.result ≡ Some c.in_ok-range.range.now
    is =
        let deref = c.deref.ensures.value in
        let view = c.self.view_is in
        grind (arith, common_steps, gets)

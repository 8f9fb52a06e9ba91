use Rattle.resp_from.specs.Maps.{HoldsSet}
use Rattle.resp_from.proofs.Conversions.{RefusesIf-along, Converts-err}
use Rattle.resp_from.proofs.FlatFilling.{item_next, item_refused}
use Rattle.resp_from.proofs.OneByOne.{all_done}
use Rattle.resp_from.proofs.maps.set_of_elements.Goals as goal

pub returns-in_err-from_reply : goal.returns-in_err-from_reply
returns-in_err-from_reply g c = record {
  converts = λ vs shown.
      let keying = g.S.FillSet.keying in
      let Of = g.T.FromRedisValue.of_value in
      let members = g.S.FillSet.members in
      let e = c.in_err-from_reply.field-0.0 in
      let at = c.loop-element.invariant vs shown in
      Converts-err (λ set. HoldsSet keying Of vs (members set)) c.from_residual.result e c.from_residual.ensures
      (RefusesIf-along e (λ none set. none (members set))
      (item_refused g.R.Reply.shows keying Of (g.R.Reply.show c.loop-element.elements)
      (g.R.Reply.show c.next_of.new.elements) c.in-Some.element (members c.loop-element.set) vs e at
      (c.in-Some.ensures.next at.others at.left) c.in_err-from_reply.ensures.converts));
}

pub loop-element-preserved : goal.loop-element-preserved
loop-element-preserved g c = λ vs shown.
    let members = g.S.FillSet.members in
    let at = c.loop-element.invariant vs shown in
    item_next g.R.Reply.shows g.S.FillSet.keying g.T.FromRedisValue.of_value (g.R.Reply.show c.loop-element.elements)
    (g.R.Reply.show c.next_of.new.elements) c.in-Some.element (members c.loop-element.set) vs
    (members c.put.new.self) c.in_ok-from_reply.field-0 at
    (c.in-Some.ensures.next at.others at.left) c.in_ok-from_reply.ensures.converts c.in_ok-put.ensures.deduplicated

pub returns : goal.returns
returns g c = record {
  converts = λ vs shown.
      let at = c.loop-element.invariant vs shown in
      all_done g.R.Reply.shows (g.R.Reply.show c.next_of.new.elements) (g.R.Reply.show c.loop-element.elements)
      (λ done. HoldsSet g.S.FillSet.keying g.T.FromRedisValue.of_value done
      (g.S.FillSet.members c.loop-element.set)) vs at (c.in_default.ensures.next at.others at.left);
}

use Rattle.std.proofs.Common.{List}
use Rattle.resp_value.specs.declared.value.Value.{Value}
use Rattle.resp_from.specs.Maps.{HoldsSet}
use Rattle.resp_from.proofs.OneByOne.{AtSome}
use Rattle.resp_from.proofs.maps.set_of_elements.Given as goal

abbrev pub invariant-loop-element : goal.invariant-loop-element
invariant-loop-element g l = (vs : List Value) → g.R.Reply.show l.fn.elements vs
    → AtSome (g.R.Reply.show l.elements) (λ done. HoldsSet g.S.FillSet.keying g.T.FromRedisValue.of_value done
    (g.S.FillSet.members l.set)) vs

abbrev pub decreases-loop-element : goal.decreases-loop-element
decreases-loop-element g l = g.R.Reply.elements_left l.elements

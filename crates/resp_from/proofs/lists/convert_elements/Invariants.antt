use Rattle.std.proofs.Common.{List}
use Rattle.std.specs.List.{AllZip}
use Rattle.resp_value.specs.declared.value.Value.{Value}
use Rattle.resp_from.proofs.OneByOne.{AtSome}
use Rattle.resp_from.proofs.lists.convert_elements.Given as goal

abbrev pub invariant-loop-element : goal.invariant-loop-element
invariant-loop-element g l = (vs : List Value) → g.R.Reply.show l.fn.elements vs
    → AtSome (g.R.Reply.show l.elements) (λ done. AllZip g.T.FromRedisValue.of_value done l.all.items) vs

abbrev pub decreases-loop-element : goal.decreases-loop-element
decreases-loop-element g l = g.R.Reply.elements_left l.elements

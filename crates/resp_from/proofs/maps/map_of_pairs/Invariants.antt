use Rattle.std.proofs.Common.{List}
use Rattle.resp_value.specs.declared.value.Value.{Value}
use Rattle.resp_from.specs.Maps.{HoldsMap}
use Rattle.resp_from.proofs.OneByOne.{AtSome}
use Rattle.resp_from.proofs.maps.map_of_pairs.Given as goal

abbrev pub invariant-loop-pair : goal.invariant-loop-pair
invariant-loop-pair g l = (ps : List (Value × Value)) → g.R.Reply.pairs_show l.fn.pairs ps
    → AtSome (g.R.Reply.pairs_show l.pairs) (λ done. HoldsMap g.M.FillMap.keying g.K.FromRedisValue.of_value
    g.V.FromRedisValue.of_value done (g.M.FillMap.entries l.map)) ps

abbrev pub decreases-loop-pair : goal.decreases-loop-pair
decreases-loop-pair g l = g.R.Reply.pairs_left l.pairs

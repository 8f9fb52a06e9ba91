use Rattle.std.proofs.Common.{◌≡◌, ◌%◌, length}
use Rattle.std.specs.Vec.Iter.{into_iter_items}
use Rattle.resp_value.specs.Views.{pairs}
use Rattle.resp_from.specs.Maps.{HoldsMap}
use Rattle.resp_from.proofs.OneByOne.{AtSome}
use Rattle.resp_from.proofs.KeysAndValues.{Left}
use Rattle.resp_from.proofs.maps.map_of_elements.Given as goal

abbrev pub invariant-loop-key : goal.invariant-loop-key
invariant-loop-key g l =
    record {
      even : length (into_iter_items l.rest) % 2 ≡ 0;
      at : AtSome (Left (into_iter_items l.rest)) (λ done. HoldsMap g.M.FillMap.keying g.K.FromRedisValue.of_value
          g.V.FromRedisValue.of_value done (g.M.FillMap.entries l.map)) (pairs l.fn.elements.items);
    }

abbrev pub decreases-loop-key : goal.decreases-loop-key
decreases-loop-key g l = length (into_iter_items l.rest)

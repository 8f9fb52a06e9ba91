use Rattle.std.proofs.Common.{◌≡◌, ◌++◌}
use Rattle.std.specs.Vec.Iter.{into_iter_items}
use Rattle.resp_from.specs.Lists.{single_maps}
use Rattle.resp_from.proofs.lists.maps_of_one.Given as goal

abbrev pub invariant-loop-pair : goal.invariant-loop-pair
invariant-loop-pair l =
    record {
      same : l.fn.pairs ≡ l.yielded ++ into_iter_items l.pair-iterator;
      made : l.maps.items ≡ single_maps l.yielded;
    }

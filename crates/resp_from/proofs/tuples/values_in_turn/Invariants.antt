use Rattle.std.proofs.Common.{◌≡◌, ◌++◌}
use Rattle.std.specs.Vec.Iter.{into_iter_items}
use Rattle.resp_from.specs.Tuples.{in_turn}
use Rattle.resp_from.proofs.tuples.values_in_turn.Given as goal

abbrev pub invariant-loop-pair : goal.invariant-loop-pair
invariant-loop-pair l =
    record {
      same : l.fn.pairs ≡ l.yielded ++ into_iter_items l.pair-iterator;
      made : l.values.items ≡ in_turn l.yielded;
    }

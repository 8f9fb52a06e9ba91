use Rattle.std.proofs.Common.{◌≡◌, ◌-◌, ◌%◌, ◌++◌, ◌==◌, filter}
use Rattle.std.specs.List.{range_with_len}
use Rattle.resp_routing.proofs.keys.push_every_second.Given as goal

abbrev pub invariant-loop-position : goal.invariant-loop-position
invariant-loop-position l =
    l.positions.items ≡ l.fn.positions.items
    ++ filter (λ place. (place - l.first) % 2 == 0) (range_with_len l.first (l.position - l.first))

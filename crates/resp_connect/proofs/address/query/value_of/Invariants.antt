use Rattle.std.proofs.Common.{◌≡◌, drop}
use Rattle.std.specs.Option.{option_copied, option_or}
use Rattle.resp_connect.specs.Queries.{value_of}
use Rattle.resp_connect.proofs.address.query.value_of.Given as goal

abbrev pub invariant-loop-other : goal.invariant-loop-other
invariant-loop-other l =
    option_or (value_of l.name (drop l.other-index l.other-items)) (option_copied l.found)
    ≡ value_of l.name l.fn.pairs

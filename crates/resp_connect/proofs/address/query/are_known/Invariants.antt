use Rattle.std.proofs.Common.{◌≡◌, drop}
use Rattle.std.specs.List.{list_all}
use Rattle.resp_connect.specs.Queries.{takes}
use Rattle.resp_connect.proofs.address.query.are_known.Given as goal

abbrev pub invariant-loop-name : goal.invariant-loop-name
invariant-loop-name l =
    list_all (λ pair. takes l.transport pair.0) (drop l.name-index l.name-items)
    ≡ list_all (λ pair. takes l.transport pair.0) l.fn.pairs

use Rattle.std.proofs.Common.{◌≡◌, false, is_some, inl, rules}
use Rattle.std.specs.List.{list_all}
use Rattle.resp_connect.specs.Queries.{pairs_of, takes}
use Rattle.resp_connect.proofs.address.query.parameters.Goals as goal

pub returns-then-not-are_known : goal.returns-then-not-are_known
returns-then-not-are_known c =
    let url = c.args.url.now in
    let plain : is_some url.fragment ≡ false = search rules in
    let unknown : list_all (λ pair. takes c.args.transport pair.0) (pairs_of url) ≡ false = search rules in
    inl (rw (plain, unknown))

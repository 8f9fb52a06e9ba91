use Rattle.std.proofs.Common.{◌≡◌, ◌++◌, map}
use Rattle.form_urlencoded.specs.Form.{raw_pairs}
use Rattle.resp_connect.specs.Queries.{pair_text, pairs_of}
use Rattle.resp_connect.proofs.address.query.pairs_of.Given as goal

abbrev pub invariant-loop-name : goal.invariant-loop-name
invariant-loop-name l =
    l.pairs ++ map pair_text (raw_pairs l.name-iterator.input.now) ≡ pairs_of l.url

use Rattle.std.proofs.Common.{rules}
use Rattle.resp_connect.specs.Queries.{pairs_of}
use Rattle.resp_connect.proofs.address.query.pairs_of.Goals as goal

pub loop-name-init : goal.loop-name-init
unfolding pairs_of
loop-name-init c = search rules

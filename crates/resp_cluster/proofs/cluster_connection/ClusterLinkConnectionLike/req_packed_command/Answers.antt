use Rattle.std.proofs.Common.{◌∷◌, [], ◌∙◌, ap, sym, arith}
use Rattle.std.proofs.lemmas.Result.{err_from_is_err_and}
use Rattle.resp_cluster.specs.Gathered.{request_of}
use Rattle.resp_cluster.proofs.Answering.{alone, packed_call}
use Rattle.resp_cluster.proofs.OverLinks.{refused_call}
use Rattle.resp_cluster.proofs.cluster_connection.ClusterLinkConnectionLike.req_packed_command.Goals as goal

pub returns-in_err-commands : goal.returns-in_err-commands
returns-in_err-commands g c =
    let p = err_from_is_err_and c.from_residual.result c.from_residual.ensures.1 in
    refused_call g.N.Link.ConnectionLike.connection _ _ c.args.bytes.now 1 p.0 _ c.args.self.now c.args.self.now _ p.1

pub returns : goal.returns
returns g c =
    let command = c.index.result.now in
    let found = c.in_ok-commands.ensures in
    let one = alone c.in_ok-commands.commands.items command found.counted in
    packed_call g.N.Link.ConnectionLike.connection g.met.N.Link.Unrouted.unrouted c.args.bytes.now c.args.self.now
    c.req_command.new.self command c.req_command.result
    (ap (λ k. request_of (k ∷ [])) c.index.ensures ∙ ap request_of (sym one) ∙ found.sent)
    (rw c.index.ensures (found.awaited 0 command (let len = found.counted in omega (arith, len)))) c.req_command.ensures

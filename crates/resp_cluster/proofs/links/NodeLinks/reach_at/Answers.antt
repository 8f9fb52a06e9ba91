use Rattle.std.proofs.Common.{arith}
use Rattle.std.proofs.lemmas.Grind.{common_steps}
use Rattle.std.proofs.lemmas.Result.{err_from_is_err_and}
use Rattle.resp_cluster.proofs.Linking.{in_range, kept_then, reopened_then, unreopened_then}
use Rattle.resp_cluster.proofs.links.NodeLinks.reach_at.Goals as goal

pub returns-then-is_open : goal.returns-then-is_open
returns-then-is_open g c = kept_then g.N.Link.ConnectionLike.connection c.args.node.now c.args.self.now
    c.self.inside.links.items c.self.inside.last c.self.view_is c.args.place c.requires.0 c.requires.1
    c.index.result.now c.index.ensures c.is_open.result c.is_open.ensures c.if-is_open.true

pub returns-in_err-link : goal.returns-in_err-link
returns-in_err-link g c =
    let p = err_from_is_err_and c.from_residual.result c.from_residual.ensures.1 in
    rw p.1 (unreopened_then g.N.Link.ConnectionLike.connection c.args.node.now c.args.self.now
    c.self.inside.links.items c.self.inside.last c.self.view_is c.args.place c.requires.0 c.requires.1
    c.index.result.now c.index.ensures c.is_open.result c.is_open.ensures c.if-is_open.false _)

pub index_mut-requires : goal.index_mut-requires
index_mut-requires g c =
    let lt = in_range g.N.Link.ConnectionLike.connection c.args.node.now c.args.self.now
    c.self.inside.links.items c.self.inside.last c.self.view_is c.args.place c.requires.0 c.requires.1 in
    grind (arith, common_steps)

pub returns : goal.returns
returns g c = reopened_then g.N.Link.ConnectionLike.connection c.args.node.now c.args.self.now
    c.self.inside.links.items c.self.inside.last c.self.view_is c.args.place c.requires.0 c.requires.1
    c.index.result.now c.index.ensures c.is_open.result c.is_open.ensures c.if-is_open.false
    c.in_ok-link.link c.in_ok-link.ensures.works c.index_mut.result.now c.index_mut.ensures.value

use Rattle.std.proofs.Common.{rules, refl}
use Rattle.std.proofs.lemmas.Result.{err_from_is_err_and}
use Rattle.resp_cluster.specs.Links.{unopened}
use Rattle.resp_cluster.proofs.Linking.{opened_then, unopened_then}
use Rattle.resp_cluster.proofs.links.NodeLinks.open.Goals as goal

pub returns-in_err-node_of_link : goal.returns-in_err-node_of_link
returns-in_err-node_of_link g c =
    let p = err_from_is_err_and c.from_residual.result c.from_residual.ensures.1 in
    rw p.1 (unopened _ c.requires refl refl)

pub returns-in_err-link : goal.returns-in_err-link
returns-in_err-link g c =
    let p = err_from_is_err_and c.from_residual-in_err-link.result c.from_residual-in_err-link.ensures.1 in
    rw p.1 (unopened_then g.N.Link.ConnectionLike.connection c.args.node.now c.args.self.now
    c.self.inside.links.items c.self.inside.last c.self.view_is c.requires c.self.inside.links.items refl _)

pub returns-in_err-push : goal.returns-in_err-push
returns-in_err-push g c =
    let p = err_from_is_err_and c.from_residual-in_err-push.result c.from_residual-in_err-push.ensures.1 in
    rw p.1 (unopened_then g.N.Link.ConnectionLike.connection c.args.node.now c.args.self.now
    c.self.inside.links.items c.self.inside.last c.self.view_is c.requires c.push.new.self.items
    c.in_err-push.ensures.items _)

pub returns : goal.returns
returns g c = opened_then g.N.Link.ConnectionLike.connection c.args.node.now c.args.self.now
    c.self.inside.links.items c.self.inside.last c.self.view_is c.requires
    c.in_ok-link.link c.in_ok-link.ensures.works c.in_ok-node_of_link.node_of_link (search rules)
    c.push.new.self.items c.in_ok-push.ensures.items c.len-place.result (search rules)

use Rattle.std.proofs.Common.{arith, rules}
use Rattle.resp_cluster.proofs.Linking.{found, none_there, one_further}
use Rattle.resp_cluster.proofs.links.NodeLinks.place_of.Goals as goal

pub returns-then-is : goal.returns-then-is
returns-then-is g c =
    let deref = c.deref-link-items.ensures.value in
    let view = c.self.view_is in
    found c.args.self.now c.args.node.now c.loop-place.place c.link-item.result (grind arith) (grind arith) (search rules)

pub loop-place-preserved : goal.loop-place-preserved
loop-place-preserved g c =
    let deref = c.deref-link-items.ensures.value in
    let view = c.self.view_is in
    one_further c.args.self.now c.args.node.now c.loop-place.place c.link-item.result c.loop-place.invariant
    (grind arith) (grind arith) (search rules)

pub returns : goal.returns
returns g c =
    let deref = c.deref-link-items.ensures.value in
    let view = c.self.view_is in
    none_there c.args.self.now c.args.node.now c.loop-place.place c.loop-place.invariant (grind arith)

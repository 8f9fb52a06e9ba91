use Rattle.std.proofs.Common.{arith, rules}
use Rattle.resp_cluster.proofs.Linking.{found}
use Rattle.resp_cluster.proofs.links.NodeLinks.place_near.Goals as goal

pub returns-then-is : goal.returns-then-is
returns-then-is g c =
    let view = c.self.view_is in
    found c.args.self.now c.args.node.now c.args.guess c.index.result.now (grind arith) (grind arith) (search rules)

use Rattle.std.proofs.Common.{refl}
use Rattle.resp_cluster.specs.Cluster.{asked, unreached}
use Rattle.resp_cluster.proofs.links.NodeLinks.ask_map.Goals as goal

pub returns-in-Ok : goal.returns-in-Ok
returns-in-Ok g c = asked c.reach.new.self (rw c.in-Ok.is at c.reach.ensures) c.ask_reached.ensures

pub returns-in-Err : goal.returns-in-Err
returns-in-Err g c = unreached _ (rw c.in-Err.is at c.reach.ensures) refl

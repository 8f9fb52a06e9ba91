use Rattle.std.proofs.Common.{refl}
use Rattle.resp_cluster.specs.Links.{answered, unreached}
use Rattle.resp_cluster.proofs.links.NodeLinksSendCommandSent.send.Goals as goal

pub returns-in-Ok : goal.returns-in-Ok
returns-in-Ok g c = answered c.send_over_last.result c.reach.new.self (rw c.in-Ok.is at c.reach.ensures)
    c.send_over_last.ensures refl

pub returns-in-Err : goal.returns-in-Err
returns-in-Err g c = unreached _ (rw c.in-Err.is at c.reach.ensures) refl

use Rattle.std.proofs.Common.{refl}
use Rattle.resp_cluster.proofs.cluster_link.ClusterLink.reach.Goals as goal

pub returns : goal.returns
returns g c = rw (← c.self.view_is) (c.reach.ensures, refl)

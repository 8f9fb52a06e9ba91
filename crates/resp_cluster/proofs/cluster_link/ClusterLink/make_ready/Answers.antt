use Rattle.std.proofs.Common.{rules}
use Rattle.resp_cluster.specs.Cluster.{refreshed}
use Rattle.resp_cluster.proofs.cluster_link.ClusterLink.make_ready.Goals as goal

pub returns-then-self : goal.returns-then-self
returns-then-self g c = refreshed (search rules) c.refresh.ensures

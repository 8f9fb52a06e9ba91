use Rattle.std.proofs.Common.{take}
use Rattle.resp_cluster.specs.Spread.{AreDestinations}
use Rattle.resp_cluster.proofs.cluster_link.ClusterLink.destinations.Given as goal

abbrev pub invariant-loop-command : goal.invariant-loop-command
invariant-loop-command g l =
    AreDestinations l.self (take l.command-index l.commands) l.nodes.items l.targets.items

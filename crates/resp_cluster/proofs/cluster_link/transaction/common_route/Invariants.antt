use Rattle.std.proofs.Common.{take}
use Rattle.resp_cluster.specs.Together.{GoTogether}
use Rattle.resp_cluster.proofs.cluster_link.transaction.common_route.Given as goal

abbrev pub invariant-loop-command : goal.invariant-loop-command
invariant-loop-command l = GoTogether (take l.command-index l.commands) l.common

use Rattle.resp_cluster.proofs.SoFar.{SoFar}
use Rattle.resp_cluster.proofs.router.follow.Given as goal

abbrev pub invariant-loop-next : goal.invariant-loop-next
invariant-loop-next g l =
    SoFar (g.S.SendCommand.sends l.command) g.S.SendCommand.redirects l.fn.first l.budget l.initial.nodes l.initial.map
    l.left (record { nodes = l.nodes; map = l.map; to = (l.node, l.asking) })

abbrev pub decreases-loop-next : goal.decreases-loop-next
decreases-loop-next g l = l.left

use Rattle.resp_cluster.proofs.Asking.{InVain}
use Rattle.resp_cluster.proofs.links.NodeLinks.ask_primaries.Given as goal

abbrev pub invariant-loop-place : goal.invariant-loop-place
invariant-loop-place g l = InVain g.N.Link.ConnectionLike.connection l.known l.initial.self l.place l.self l.why

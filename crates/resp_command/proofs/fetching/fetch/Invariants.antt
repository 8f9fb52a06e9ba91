use Rattle.resp_command.proofs.ScanRequests.{Fetching}
use Rattle.resp_command.proofs.fetching.fetch.Given as goal

abbrev pub invariant-loop-cursor : goal.invariant-loop-cursor
invariant-loop-cursor g l = Fetching g.T.FromRedisValue.WIDTH g.T.FromRedisValue.of_value
    (g.C.ConnectionLike.connection l.initial.con) (g.C.ConnectionLike.connection l.con) l.command l.from l.budget
    l.cursor l.left

abbrev pub decreases-loop-cursor : goal.decreases-loop-cursor
decreases-loop-cursor g l = l.left

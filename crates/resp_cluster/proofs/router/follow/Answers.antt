use Rattle.std.proofs.Common.{arith}
use Rattle.resp_cluster.proofs.SoFar.{ended, interrupted, one_more, used_up}
use Rattle.resp_cluster.proofs.router.follow.Goals as goal

pub returns-in_default-clause-not_followed : goal.returns-in_default-clause-not_followed
returns-in_default-clause-not_followed g c =
    interrupted _ _ _ _ _ _ _ _ _ _ _ c.loop-next.invariant c.send-answer.ensures c.in_default.ensures.unchanged

pub returns-in_default-next-clause-followed : goal.returns-in_default-next-clause-followed
returns-in_default-next-clause-followed g c =
    ended _ _ _ _ _ _ _ _ _ _ _ c.loop-next.invariant c.send-answer.ensures
    (rw c.in_default-next.is at c.in-Ok.ensures.learns)

pub returns-then-left-eq0-clause-followed : goal.returns-then-left-eq0-clause-followed
returns-then-left-eq0-clause-followed g c =
    used_up _ _ _ _ _ _ _ _ _ _ _ _ c.loop-next.invariant c.if-left-eq0.true c.send-answer.ensures
    c.in-Ok.ensures.learns

pub loop-next-preserved : goal.loop-next-preserved
loop-next-preserved g c =
    one_more _ _ _ _ _ _ _ _ c.send-answer.result _ c.loop-next.invariant (omega (arith, c.if-left-eq0.false))
    c.send-answer.ensures (rw c.in-Some.is at c.in-Ok.ensures.learns)

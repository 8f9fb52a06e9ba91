use Rattle.std.proofs.Common.{refl, inl, inr, arith, None}
use Rattle.resp_cluster.specs.Routed as routed
use Rattle.resp_cluster.proofs.GoingOn.{did_not, went_on}
use Rattle.resp_cluster.proofs.router.go_on.Goals as goal

pub returns-in_default-next-clause-went : goal.returns-in_default-next-clause-went
returns-in_default-next-clause-went g c =
    routed.nowhere None (rw c.in_default-next.is at c.in-Ok.ensures.learns) (inl refl) refl refl

pub returns-then-budget-eq0-clause-went : goal.returns-then-budget-eq0-clause-went
returns-then-budget-eq0-clause-went g c =
    routed.nowhere c.in-Ok.next c.in-Ok.ensures.learns (inr c.if-budget-eq0.true) refl refl

pub returns-clause-went : goal.returns-clause-went
returns-clause-went g c =
    went_on _ _ _ _ _ _ _ _ _ _ _ (rw c.in-Some.is at c.in-Ok.ensures.learns) (omega (arith, c.if-budget-eq0.false)) _
    c.follow.ensures.followed

pub returns-clause-did_not : goal.returns-clause-did_not
returns-clause-did_not g c =
    did_not _ _ _ _ _ _ _ _ _ _ _ (rw c.in-Some.is at c.in-Ok.ensures.learns) (omega (arith, c.if-budget-eq0.false)) _
    c.follow.ensures.not_followed

use Rattle.std.proofs.Common.{◌<◌, arith, take_all}
use Rattle.std.proofs.lemmas.List.{take_more}
use Rattle.std.proofs.lemmas.List.Elements.{All-push}
use Rattle.resp_cluster.proofs.merge.are_below.Goals as goal

pub loop-place-preserved : goal.loop-place-preserved
loop-place-preserved c =
    rw (take_more c.args.places.now c.loop-place.place-index 0 c.loop-place-test.true)
    (All-push (λ p. p < c.args.count) _ _ c.loop-place.invariant (omega (arith, c.if-place-count.false)))

pub returns-clause-known : goal.returns-clause-known
returns-clause-known c ok = rw (← take_all c.loop-place.place-index c.args.places.now (omega arith)) c.loop-place.invariant

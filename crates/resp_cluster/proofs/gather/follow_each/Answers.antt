use Rattle.std.proofs.Common.{rules, arith, ap, length, refl, []}
use Rattle.std.proofs.lemmas.Result.{err_from_is_err_and}
use Rattle.resp_cluster.proofs.Following.{all_followed, following_starts, next_follows, none_left, one_stops}
use Rattle.resp_cluster.proofs.gather.follow_each.Goals as goal

pub returns-clause-followed : goal.returns-clause-followed
returns-clause-followed g c =
    all_followed _ _ _ _ _ _ _ _ _ _ c.loop-place.invariant.2
    (omega (arith, c.in-None.ensures.steps.0.0, c.loop-place.place-iterator.iter.rest.ok.0))

pub returns-in_err-answer-clause-stopped : goal.returns-in_err-answer-clause-stopped
returns-in_err-answer-clause-stopped g c =
    let p = err_from_is_err_and c.from_residual-in_err-answer.result c.from_residual-in_err-answer.ensures.1 in
    let steps = c.in-Some.ensures.steps in
    let so_far = c.loop-place.invariant.2 in
    rw (p.1, p.2)
    (one_stops _ _ _ _ _ _ _ _ _ _ _ _ _ _ _ _ _ so_far steps.0.0 steps.1
    (c.requires.known c.in-Some.place 0 (omega (arith, so_far.long, so_far.same, ap length steps.0.0, steps.1)))
    c.index-nodes-targets.is c.index-commands-place.is (rw c.in_err-answer.was at c.follow_reply.ensures))

pub loop-place-preserved : goal.loop-place-preserved
loop-place-preserved g c =
    let steps = c.in-Some.ensures.steps in
    let so_far = c.loop-place.invariant.2 in (
      search rules,
      search rules,
      next_follows _ _ _ _ _ _ _ _ _ _ _ _ _ _ _ _ _ _ _ so_far steps.0.0 steps.1 steps.2 c.in_ok-push.ensures.items
          (c.requires.known c.in-Some.place 0 (omega (arith, so_far.long, so_far.same, ap length steps.0.0, steps.1))) c.index-nodes-targets.is c.index-commands-place.is (rw c.in_ok-answer.was at c.follow_reply.ensures),
    )

pub returns-in_err-answers-clause-stopped : goal.returns-in_err-answers-clause-stopped
returns-in_err-answers-clause-stopped g c =
    let p = err_from_is_err_and c.from_residual.result c.from_residual.ensures.1 in
    rw p.1 (none_left g.C.SendGroups.follows c.args.nodes.now c.args.cluster.now c.args.targets.now c.args.commands.now
    c.args.replies.items [] c.args.replies.items 0 c.args.cluster.now p.0
    (following_starts _ _ _ _ _ _ c.requires.targets c.requires.replies) p.2)

pub returns-in_err-push-clause-stopped : goal.returns-in_err-push-clause-stopped
returns-in_err-push-clause-stopped g c =
    let p = err_from_is_err_and c.from_residual-in_err-push.result c.from_residual-in_err-push.ensures.1 in
    let steps = c.in-Some.ensures.steps in
    let so_far = c.loop-place.invariant.2 in
    rw p.1 (none_left _ _ _ _ _ _ _ _ _ _ p.0
    (next_follows _ _ _ _ _ _ _ _ _ _ _ _ _ _ _ _ _ _ _ so_far steps.0.0 steps.1 steps.2 refl
    (c.requires.known c.in-Some.place 0 (omega (arith, so_far.long, so_far.same, ap length steps.0.0, steps.1))) c.index-nodes-targets.is
    c.index-commands-place.is (rw c.in_ok-answer.was at c.follow_reply.ensures)) p.2)

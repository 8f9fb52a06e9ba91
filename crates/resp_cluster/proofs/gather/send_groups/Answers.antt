use Rattle.std.proofs.Common.{◌+◌, ◌∷◌, ◌++◌, [], ap, ◌∙◌, arith, inl, inr, length-append, map, refl}
use Rattle.std.proofs.lemmas.Result.{err_from_is_err_and}
use Rattle.std.proofs.lemmas.List.{map_push, length-map, reverse-reverse}
use Rattle.resp_cluster.specs.Gathered.{no_memory}
use Rattle.resp_cluster.proofs.Gathers.{node_at, one_more, stopped}
use Rattle.resp_cluster.proofs.Grouping.{group_at}
use Rattle.resp_cluster.specs.Gathering.{from_last}
use Rattle.resp_cluster.proofs.gather.send_groups.Goals as goal

pub loop-place-preserved : goal.loop-place-preserved
loop-place-preserved g c =
    let held = c.loop-place.invariant in
    let long = length-map c.loop-place.all_replies.items from_last in
    let group = group_at _ _ _ c.loop-place.place c.index.result.now c.in_ok-groups.ensures.parted
    (omega (arith, c.in_ok-groups.ensures.count, c.loop-place-test.true)) c.index.ensures in
    rw (c.in_ok-push.ensures.items) (
      length-append c.loop-place.all_replies.items (c.reverse.new.self ∷ []) ∙ ap (λ n. n + 1) held.0,
      rw (map_push from_last c.loop-place.all_replies.items c.reverse.new.self) (one_more _ _ _ 0 _ _ _ _ c.loop-place.place c.index-nodes-place.result
          (from_last c.reverse.new.self) c.send_to.new.cluster held.1 (omega (arith, held.0, long))
          (node_at _ c.loop-place.place _ c.index-nodes-place.result (omega (arith, held.0, long)) c.loop-place-test.true c.index-nodes-place.is)
          (rw (c.reverse.ensures.items, reverse-reverse c.in_ok-replies.replies.items) (c.in_ok-replies.ensures.sent _ group))),
    )

pub returns-in_err-replies-clause-refused : goal.returns-in_err-replies-clause-refused
returns-in_err-replies-clause-refused g c =
    let p = err_from_is_err_and c.from_residual-in_err-replies.result c.from_residual-in_err-replies.ensures.1 in
    let held = c.loop-place.invariant in
    let long = length-map c.loop-place.all_replies.items from_last in
    let group = group_at _ _ _ c.loop-place.place c.index.result.now c.in_ok-groups.ensures.parted
    (omega (arith, c.in_ok-groups.ensures.count, c.loop-place-test.true)) c.index.ensures in
    rw (p.1, p.2) (elim (c.in_err-replies.ensures.refused _ group) [
      | inl memory ↦ no_memory (map from_last c.loop-place.all_replies.items) (rw memory.1 held.1) memory.0
      | inr refused ↦ (stopped _ _ _ _ _ _ _ c.loop-place.place c.index-nodes-place.result _ _ held.1 (omega (arith, held.0, long))
          (node_at _ c.loop-place.place _ c.index-nodes-place.result (omega (arith, held.0, long)) c.loop-place-test.true c.index-nodes-place.is) refused)
    ])

pub returns-in_err-groups-clause-refused : goal.returns-in_err-groups-clause-refused
returns-in_err-groups-clause-refused g c =
    let p = err_from_is_err_and c.from_residual.result c.from_residual.ensures.1 in
    rw (p.1, p.2) (no_memory [] refl c.in_err-groups.ensures.memory)

pub returns-in_err-all_replies-clause-refused : goal.returns-in_err-all_replies-clause-refused
returns-in_err-all_replies-clause-refused g c =
    let p = err_from_is_err_and c.from_residual-in_err-all_replies.result c.from_residual-in_err-all_replies.ensures.1 in
    rw p.1 (no_memory [] refl p.2)

pub returns-in_err-push-clause-refused : goal.returns-in_err-push-clause-refused
returns-in_err-push-clause-refused g c =
    let p = err_from_is_err_and c.from_residual-in_err-push.result c.from_residual-in_err-push.ensures.1 in
    let held = c.loop-place.invariant in
    let long = length-map c.loop-place.all_replies.items from_last in
    let group = group_at _ _ _ c.loop-place.place c.index.result.now c.in_ok-groups.ensures.parted
    (omega (arith, c.in_ok-groups.ensures.count, c.loop-place-test.true)) c.index.ensures in
    rw p.1 (no_memory (map from_last c.loop-place.all_replies.items ++ from_last c.reverse.new.self ∷ [])
    (one_more _ _ _ 0 _ _ _ _ c.loop-place.place c.index-nodes-place.result
    (from_last c.reverse.new.self) c.send_to.new.cluster held.1 (omega (arith, held.0, long))
    (node_at _ c.loop-place.place _ c.index-nodes-place.result (omega (arith, held.0, long)) c.loop-place-test.true c.index-nodes-place.is)
    (rw (c.reverse.ensures.items, reverse-reverse c.in_ok-replies.replies.items) (c.in_ok-replies.ensures.sent _ group))) p.2)

use Rattle.std.proofs.Common.{◌<◌, ◌∷◌, [], reverse, length, get_or, ap, sym, ◌∙◌, arith}
use Rattle.std.proofs.lemmas.List.{map-set, get_or-map, length-map, length-reverse, reverse-append}
use Rattle.resp_cluster.proofs.Gathers.{one_left, put}
use Rattle.resp_cluster.specs.Gathering.{from_last}
use Rattle.resp_cluster.proofs.gather.in_places.Goals as goal

pub unreachable-requires : goal.unreachable-requires
unreachable-requires c =
    let i = c.loop-target.target-index in
    let t = get_or c.args.targets.now i 0 in
    let inside : t < length c.args.groups.now.items = c.requires.known i 0 c.loop-target-test.true in
    let long = length-map c.args.groups.now.items from_last in
    let same = c.loop-target.invariant.same in
    let long' = length-map c.loop-target.groups.items from_last in
    let some = one_left _ _ _ _ _ c.loop-target.invariant c.loop-target-test.true (omega (arith, inside, long)) in
    let here = ap length (get_or-map from_last c.loop-target.groups.items t _ [] (omega (arith, inside, long, same, long'))
    ∙ ap from_last (sym c.index_mut.ensures.value)) in
    let turned = length-reverse c.index_mut.result.now.items in
    omega (arith, some, here, turned, c.in-None.ensures.cases.0, c.index_mut.result.now.ok.0)

pub loop-target-preserved : goal.loop-target-preserved
loop-target-preserved c =
    let i = c.loop-target.target-index in
    let t = get_or c.args.targets.now i 0 in
    let inside : t < length c.args.groups.now.items = c.requires.known i 0 c.loop-target-test.true in
    let long = length-map c.args.groups.now.items from_last in
    let same = c.loop-target.invariant.same in
    let long' = length-map c.loop-target.groups.items from_last in
    let next = get_or-map from_last c.loop-target.groups.items t _ [] (omega (arith, inside, long, same, long'))
    ∙ ap from_last (sym c.index_mut.ensures.value)
    ∙ ap reverse c.in-Some.ensures.items ∙ reverse-append c.pop.new.self.items (c.in-Some.reply ∷ []) in
    rw (c.in_ok-push-in-Some.ensures.items, map-set from_last c.loop-target.groups.items t c.pop.new.self)
    (put _ _ _ _ _ _ _ c.loop-target.invariant c.loop-target-test.true (omega (arith, inside, long)) next)

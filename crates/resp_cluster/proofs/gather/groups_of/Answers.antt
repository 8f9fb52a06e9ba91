use Rattle.std.proofs.Common.{◌∙◌, refl, arith, get_or, length-set}
use Rattle.resp_cluster.proofs.Grouping.{no_more_than_places, one_put}
use Rattle.resp_cluster.proofs.gather.groups_of.Goals as goal

pub overflow_add-group : goal.overflow_add-group
overflow_add-group c =
    let held = c.loop-place.invariant in
    let inside = c.requires.known c.loop-place.place 0 (omega (arith, c.requires.each, c.loop-place-test.true)) in
    let most = no_more_than_places _ _ c.loop-place.place _ _ held.1 (omega (arith, inside, held.0)) c.index_mut-group.ensures.value in
    omega (arith, most)

pub loop-place-preserved : goal.loop-place-preserved
loop-place-preserved c =
    let held = c.loop-place.invariant in
    let inside = c.requires.known c.loop-place.place 0 (omega (arith, c.requires.each, c.loop-place-test.true)) in (
      length-set c.loop-place.groups.items (get_or c.args.targets.now c.loop-place.place 0) _ ∙ held.0,
      one_put _ _ c.loop-place.place _ _ held.1 (omega (arith, inside, held.0)) c.index_mut-group.ensures.value c.requires.each
          c.loop-place-test.true c.index-commands-place.result c.index-commands-place.is _
          c.in_ok-write_packed_command.ensures.written refl,
    )

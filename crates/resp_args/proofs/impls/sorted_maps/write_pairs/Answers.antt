use Rattle.std.proofs.Common.{refl, ◌∙◌}
use Rattle.resp_args.proofs.GrowingArgs.{progress_start, progress_step, progress_end, progress_fails, progress_failed}
use Rattle.resp_args.proofs.impls.sorted_maps.write_pairs.Goals as goal

pub loop-key-init : goal.loop-key-init
loop-key-init g c = (rw c.into_iter-key-iterator.ensures.into_iter_gives.0 (progress_start _ _ _ _), refl)

pub loop-key-preserved : goal.loop-key-preserved
loop-key-preserved g c =
    let ensures = c.in_ok-write_pair.ensures in (
      progress_step _ _ _ (c.in-Some.key.now, c.in-Some.value.now) _ _ _ _
          (rw c.in-Some.ensures.steps at c.loop-key.invariant.0) ensures.written.0 ensures.written.1,
      ensures.kept
          ∙ c.loop-key.invariant.1,
    )

pub returns-in_err-write_pair : goal.returns-in_err-write_pair
returns-in_err-write_pair g c =
    let progress = rw c.in-Some.ensures.steps at c.loop-key.invariant.0 in
    let pair : g.row.K.Denot × g.row.V.Denot = (c.in-Some.key.now, c.in-Some.value.now) in
    let ensures = c.in_err-write_pair.ensures in
    record {
      written = progress_fails _ _ _ pair c.next.new.self _ _ _ _ _ progress ensures.written c.from_residual.ensures;
      failed = progress_failed _ _ _ _ pair c.next.new.self _ _ _ _ _ progress ensures.written ensures.failed
          c.from_residual.ensures;
      kept = ensures.kept ∙ c.loop-key.invariant.1;
    }

pub returns : goal.returns
returns g c = record {
  written = progress_end _ _ _ _ _ (rw c.in-None.ensures.steps.0 at c.loop-key.invariant.0);
  failed = tt;
  kept = c.loop-key.invariant.1;
}

use Rattle.std.proofs.Common.{refl, ◌∙◌}
use Rattle.resp_args.proofs.GrowingArgs.{progress_start, progress_step, progress_end, progress_fails, progress_failed}
use Rattle.resp_args.proofs.impls.sorted_sets.write_members.Goals as goal

pub loop-member-init : goal.loop-member-init
loop-member-init g c = (rw c.into_iter-member-iterator.ensures.into_iter_gives.0 (progress_start _ _ _ _), refl)

pub loop-member-preserved : goal.loop-member-preserved
loop-member-preserved g c =
    let ensures = c.in_ok-write_redis_args.ensures in (
      progress_step _ _ _ c.in-Some.member.now _ _ _ _ (rw c.in-Some.ensures.steps at c.loop-member.invariant.0)
          ensures.written.0 ensures.written.1,
      ensures.kept ∙ c.loop-member.invariant.1,
    )

pub returns-in_err-write_redis_args : goal.returns-in_err-write_redis_args
returns-in_err-write_redis_args g c =
    let progress = rw c.in-Some.ensures.steps at c.loop-member.invariant.0 in
    let ensures = c.in_err-write_redis_args.ensures in
    record {
      written = progress_fails _ _ _ c.in-Some.member.now c.next.new.self _ _ _ _ _ progress ensures.written
          c.from_residual.ensures;
      failed = progress_failed _ _ _ _ c.in-Some.member.now c.next.new.self _ _ _ _ _ progress ensures.written
          ensures.failed c.from_residual.ensures;
      kept = ensures.kept ∙ c.loop-member.invariant.1;
    }

pub returns : goal.returns
returns g c = record {
  written = progress_end _ _ _ _ _ (rw c.in-None.ensures.steps.0 at c.loop-member.invariant.0);
  failed = tt;
  kept = c.loop-member.invariant.1;
}

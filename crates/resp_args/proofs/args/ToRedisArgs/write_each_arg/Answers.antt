use Rattle.std.proofs.Common.{ℕ, ◌≡◌, ◌<◌, ◌+◌, List, ◌∷◌, drop, get_or, length, arith, sym, ap, ◌∙◌, refl}
use Rattle.std.proofs.lemmas.List.{drop_more, drop_all}
use Rattle.resp_args.proofs.GrowingArgs.{progress_start, progress_step, progress_end, progress_fails, progress_failed}
use Rattle.resp_args.proofs.args.ToRedisArgs.write_each_arg.Goals as goal

-- the item at an index comes next
next_item : {X : Type 0} (items : List X) (i : ℕ) (item : X) → i < length items → item ≡ get_or items i item
    → drop i items ≡ item ∷ drop (i + 1) items
next_item items i item inside is = drop_more items i item inside ∙ ap (λ x. x ∷ drop (i + 1) items) (sym is)

pub loop-item-init : goal.loop-item-init
loop-item-init g c = (progress_start _ _ _ _, refl)

pub loop-item-preserved : goal.loop-item-preserved
loop-item-preserved g c =
    let more = next_item c.args.items.now c.loop-item.item-index c.item-item.result (omega arith) c.item-item.is in
    let ensures = c.in_ok-write_redis_args.ensures in (
      progress_step _ _ _ c.item-item.result _ _ _ _ (rw more at c.loop-item.invariant.0) ensures.written.0
          ensures.written.1,
      ensures.kept ∙ c.loop-item.invariant.1,
    )

pub returns-in_err-write_redis_args : goal.returns-in_err-write_redis_args
returns-in_err-write_redis_args g c =
    let items = c.args.items.now in
    let i = c.loop-item.item-index in
    let item = c.item-item.result in
    let more = next_item items i item (omega arith) c.item-item.is in
    let progress = rw more at c.loop-item.invariant.0 in
    let ensures = c.in_err-write_redis_args.ensures in
    record {
      written = progress_fails _ _ items item (drop (i + 1) items) _ _ _ _ _ progress ensures.written
          c.from_residual.ensures;
      failed = progress_failed _ _ _ items item (drop (i + 1) items) _ _ _ _ _ progress ensures.written ensures.failed
          c.from_residual.ensures;
      kept = ensures.kept ∙ c.loop-item.invariant.1;
    }

pub returns : goal.returns
returns g c =
    let none = drop_all c.loop-item.item-index c.args.items.now (omega arith) in
    record {
      written = progress_end _ _ _ _ _ (rw none at c.loop-item.invariant.0);
      failed = tt;
      kept =
          c.loop-item.invariant.1;
    }

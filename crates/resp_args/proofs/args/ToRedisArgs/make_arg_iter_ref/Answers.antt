use Rattle.std.proofs.Common.{rules, List, [], ◌∷◌, ◌++◌, sym, subst, refl, ◌∙◌, Option, Some, Result, Ok, Err, OnOk}
use Rattle.std.specs.Iterator.{Yields}
use Rattle.std.specs.Result.{IsErr}
use Rattle.resp_errors.specs.declared.redis_error.RedisError.{RedisError}
use Rattle.resp_args.proofs.GrowingArgs.{progress_step, progress_more, progress_fails, progress_failed_last}
use Rattle.resp_args.proofs.args.ToRedisArgs.make_arg_iter_ref.Goals as goal

Yields-push : {S A : Type 0} (steps : S → Option A → S → Type 0) (s : S) (xs : List A) (t : S) (x : A) (u : S)
    → Yields steps s xs t → steps t (Some x) u → Yields steps s (xs ++ x ∷ []) u
Yields-push steps s [] t x u h step = (u, subst (λ start. steps start (Some x) u) (sym h) step, refl)
Yields-push steps s (y ∷ ys) t x u h step = (h.0, h.1, Yields-push steps h.0 ys t x u h.2 step)

-- a refused call needn't have come to the end
no_end : (End : Type 0) (r : Result (Unit {0}) RedisError) → IsErr r → OnOk r End
no_end End (Ok x) h = absurd (cc h)
no_end End (Err e) h = tt

pub loop-value-preserved : goal.loop-value-preserved
loop-value-preserved g c =
    let goes = c.in-Some.ensures.goes.on c.loop-value.invariant.1 in
    let ensures = c.in_ok-write_redis_args.ensures in (
      goes.0,
      goes.1,
      progress_step _ _ _ c.in-Some.value.now [] _ _ _
          (progress_more _ _ c.loop-value.yielded c.in-Some.value _ _ c.loop-value.invariant.2) ensures.written.0
          ensures.written.1,
      ensures.kept ∙ c.loop-value.invariant.3,
    )

pub returns-in_err-write_redis_args : goal.returns-in_err-write_redis_args
returns-in_err-write_redis_args g c =
    let steps = g.I.Iterator.next_gives in
    let given = c.loop-value.yielded in
    let last = c.in-Some.value in
    let before : Yields steps c.args.values given c.loop-value.value-iterator = subst
    (λ start. Yields steps start given c.loop-value.value-iterator)
    c.into_iter-value-iterator.ensures.into_iter_gives c.loop-value.yielded_by in
    let progress = progress_more _ _ given last _ _ c.loop-value.invariant.2 in
    let ensures = c.in_err-write_redis_args.ensures in
    record {
      written = record {
        items = given ++ last ∷ [];
        rest = c.next.new.self;
        yielded = Yields-push steps c.args.values given c.loop-value.value-iterator last c.next.new.self before
            c.in-Some.ensures.steps;
        whole = no_end _ c.from_residual.result c.from_residual.ensures.0;
        written = progress_fails _ _ _ last.now [] _ _ _ _ _ progress ensures.written c.from_residual.ensures;
        failed = progress_failed_last _ _ _ _ last.now _ _ _ _ _ progress ensures.written ensures.failed
            c.from_residual.ensures;
      };
      kept = ensures.kept ∙ c.loop-value.invariant.3;
    }

pub returns-clause-written : goal.returns-clause-written
returns-clause-written g c = search rules

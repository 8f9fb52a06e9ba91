-- What a pipeline's query answers, by what the connection's call answers.
use Rattle.std.proofs.Common.{◌≡◌, ℕ, ◌+◌, inl, inr, true, false, List, ◌++◌, Result, Ok, Err, refl, sym, ap, ◌∙◌}
use Rattle.std.proofs.Common.{subst, arith}
use Rattle.resp_value.specs.declared.value.Value.{Value}
use Rattle.resp_errors.specs.declared.redis_error.RedisError.{RedisError}
use Rattle.resp_errors.specs.declared.redis_error.RedisError.TheVariants.{OutOfMemory}
use Rattle.resp_command.specs.Call.{Asks, Call, AnswersFrom, refused, not_carried}
use Rattle.resp_command.specs.Connection.{push_room, Connection, out_of_memory}
use Rattle.resp_command.proofs.OneTaking.{takes_one_thing}
use Rattle.resp_command.proofs.Queries.{call_err, call_ok, nothing_done, reconnects_over, routes_over}
use Rattle.resp_pipeline.specs.Outcome.{Outcome}
use Rattle.resp_pipeline.specs.Pipeline.{Plan, request, replies_needed}
use Rattle.resp_pipeline.specs.PipelineQuery.{PipelineQuery, no_pipelining}
use Rattle.resp_pipeline.proofs.Requests.{pipeline_reads_only}

module _ {X : Type 0} (old new : Connection) (p : Plan) (Of : Value → X → Type 0) (same : new ≡ old) where
  pub unsupported : old.pipelines ≡ false → PipelineQuery old new p Of (Err no_pipelining)
  unsupported alone = record {
    reads_only = pipeline_reads_only p;
    takes_one = λ link arrived. takes_one_thing link.limits (push_room link) (replies_needed p) (link.received ++ arrived);
    unsupported = λ _. record { answer = refl; same = same };
    policy = ap (λ (c : Connection). c.policy) same;
    when_broken = λ t _ _. absurd (let k : true ≡ false = sym t ∙ alone in cc);
    when_lost = λ t _ _. absurd (let k : true ≡ false = sym t ∙ alone in cc);
    when_routed = λ t _. absurd (let k : true ≡ false = sym t ∙ alone in cc);
    when_working = λ t _ _. absurd (let k : true ≡ false = sym t ∙ alone in cc);
  }

  pub not_packed : old.pipelines ≡ true → PipelineQuery old new p Of (Err OutOfMemory)
  not_packed several = record {
    reads_only = pipeline_reads_only p;
    takes_one = λ link arrived. takes_one_thing link.limits (push_room link) (replies_needed p) (link.received ++ arrived);
    unsupported = λ t. absurd (let k : true ≡ false = sym several ∙ t in cc);
    policy = ap (λ (c : Connection). c.policy) same;
    when_broken = λ _ _ _. inr (record { answer = refl; same = same });
    when_lost = λ _ _ _. refused OutOfMemory (record { answer = refl; same = same });
    when_routed = λ _ _. not_carried OutOfMemory refl;
    when_working = λ _ _ _. nothing_done same (out_of_memory (record {
      answer = refl;
      no_failure = record {
        source = ap (λ (c : Connection). c.source_failures) same;
        sink = ap (λ (c : Connection). c.sink_failures) same;
      };
      left = inl same;
    }));
  }

-- what the connection's call was asked, and what it answered
module _ {X V : Type 0} (items : V → List Value) (old new : Connection) (p : Plan) (Of : Value → X → Type 0)
    (q : List ℕ) (count : ℕ) (sent : Result V RedisError)
    (same_request : q ≡ request p) (same_count : count ≡ replies_needed p) (several : old.pipelines ≡ true)
    (h : Call old new ⊥ ⊥ q (0 + count) sent (AnswersFrom items 0 sent)) where
  asked : Call old new ⊥ ⊥ (request p) (replies_needed p) sent (AnswersFrom items 0 sent)
  asked = let all : 0 + count ≡ count = omega arith in rw (same_request, all, same_count) at h

  pub pipeline_refused : (e : RedisError) → sent ≡ Err e → PipelineQuery old new p Of (Err e)
  pipeline_refused e is =
      let call = call_err {A = V} {B = X} old new (request p) (replies_needed p) (AnswersFrom items 0 (Err e))
      (Outcome p Of (Err e)) ⊥ ⊥ e (λ replies k. k) (rw is at asked) in
      record {
        reads_only = pipeline_reads_only p;
        takes_one = λ link arrived. takes_one_thing link.limits (push_room link) (replies_needed p) (link.received ++ arrived);
        unsupported = λ t. absurd (let k : true ≡ false = sym several ∙ t in cc);
        policy = call.policy;
        when_broken = λ _ b same. inl (call.when_broken b same);
        when_lost = λ _ b again. reconnects_over _ _ _ _ _ (λ other asks. asks.otherwise (λ k. k) (λ k. k)) (call.when_lost b again);
        when_routed = λ _ b. routes_over _ _ _ _ (λ other asks. asks.otherwise (λ k. k) (λ k. k)) (call.when_routed b);
        when_working = λ _ b own. (call.when_working b own).otherwise (λ k. k) (λ k. k);
      }

  pub pipeline_answered : (v : V) (r : Result X RedisError) → sent ≡ Ok v → Outcome p Of r (items v)
      → PipelineQuery old new p Of r
  pipeline_answered v r is answer =
      let call = call_ok {A = V} {B = X} old new (request p) (replies_needed p) (AnswersFrom items 0 (Ok v))
      (Outcome p Of r) ⊥ ⊥ v r
      (λ replies len all. subst (λ (vs : List Value). Outcome p Of r vs) all answer) (rw is at asked) in
      record {
        reads_only = pipeline_reads_only p;
        takes_one = λ link arrived. takes_one_thing link.limits (push_room link) (replies_needed p) (link.received ++ arrived);
        unsupported = λ t. absurd (let k : true ≡ false = sym several ∙ t in cc);
        policy = call.policy;
        when_broken = λ _ b same. inl (call.when_broken b same);
        when_lost = λ _ b again. reconnects_over _ _ _ _ _ (λ other asks. asks.otherwise (λ k. k) (λ k. k)) (call.when_lost b again);
        when_routed = λ _ b. routes_over _ _ _ _ (λ other asks. asks.otherwise (λ k. k) (λ k. k)) (call.when_routed b);
        when_working = λ _ b own. (call.when_working b own).otherwise (λ k. k) (λ k. k);
      }

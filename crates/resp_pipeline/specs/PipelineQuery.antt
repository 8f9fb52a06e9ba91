-- What the query of a pipeline over a connection does: its theorem.
use Rattle.std.specs.Prelude.{◌≡◌, ◌≢◌, ◌⊎◌, ℕ, true, false, List, ◌++◌, Result, None, codes}
use Rattle.resp_value.specs.declared.value.Value.{Value}
use Rattle.resp_errors.specs.declared.kinds.ErrorKind.TheVariants as kind
use Rattle.resp_errors.specs.declared.redis_error.RedisError.{RedisError}
use Rattle.resp_errors.specs.declared.redis_error.RedisError.TheVariants.{General, OutOfMemory}
use Rattle.resp_command.specs.Call.{Reconnects, Refuses, Routes, broken_link}
use Rattle.resp_command.specs.Connection.{push_room, Connection, Exchange, stays, reconnects, routes}
use Rattle.resp_pipeline.specs.Outcome.{Outcome}
use Rattle.resp_pipeline.specs.Pipeline.{Plan, request, replies_needed}
use Rattle.resp_pipeline.specs.PipelineLaw.{LawOfPipelines}
use Rattle.resp_command.specs.Parted.{Parted}
use Rattle.resp_command.specs.Taken.{TakesOneThing}

-- what a connection is refused with that takes one command at a time
abbrev pub no_pipelining : RedisError
no_pipelining = General kind.Client (codes "This connection does not support pipelining.") None

-- a pipeline over a connection: it writes its request, which the grammar reads only as its
-- commands; whatever bytes arrive, its replies take one thing from them and those before; it keeps
-- every later byte; and it answers what the replies, a fault, an early end or a failure determine
pub record PipelineQuery {X : Type 0} (old new : Connection) (p : Plan)
    (of_value : Value → X → Type 0) (result : Result X RedisError) : Type 0 where
  pub reads_only : LawOfPipelines p
  pub takes_one : (link : Connection) (arrived : List ℕ) →
      TakesOneThing link.limits (push_room link) (replies_needed p) (link.received ++ arrived)
  pub policy : new.policy ≡ old.policy
  pub unsupported : old.pipelines ≡ false → Refuses old new no_pipelining result
  -- memory may run out while the request is built
  pub when_broken : old.pipelines ≡ true → old.broken ≡ true → old.policy ≡ stays →
      Refuses old new broken_link result ⊎ Refuses old new OutOfMemory result
  pub when_lost : old.pipelines ≡ true → old.broken ≡ true → old.policy ≡ reconnects →
      Reconnects old new result (λ other. Exchange other new (request p) (replies_needed p) result
      (Outcome p of_value result))
  pub when_routed : old.pipelines ≡ true → old.policy ≡ routes →
      Routes result (λ other. Exchange other new (request p) (replies_needed p) result
      (Outcome p of_value result)) (Parted (request p) (replies_needed p) (Outcome p of_value result))
  pub when_working : old.pipelines ≡ true → old.broken ≡ false → old.policy ≢ routes →
      Exchange old new (request p) (replies_needed p) result (Outcome p of_value result)

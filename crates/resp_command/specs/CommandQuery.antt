-- What the query of a command over a connection does: its theorem.
use Rattle.std.specs.Prelude.{ℕ, List, ◌++◌, Result}
use Rattle.resp_value.specs.declared.value.Value.{Value}
use Rattle.resp_errors.specs.declared.redis_error.RedisError.{RedisError}
use Rattle.resp_command.specs.Call.{CommandCall, Answers, needed}
use Rattle.resp_command.specs.Command.{Command}
use Rattle.resp_command.specs.Connection.{push_room, Connection}
use Rattle.resp_command.specs.PackingLaw.{LawOfPacking}
use Rattle.resp_command.specs.Taken.{TakesOneThing}

-- a command over a connection: it writes its request, which the grammar reads only as its
-- arguments; whatever bytes arrive, one reply takes one thing from them and those before; and it
-- answers what the reply, a fault, an early end or a failure determine
pub record CommandQuery {X : Type 0} (old new : Connection) (c : Command)
    (of_value : Value → X → Type 0) (result : Result X RedisError) : Type 0 where
  pub reads_only : LawOfPacking c.args
  pub takes_one : (link : Connection) (arrived : List ℕ) →
      TakesOneThing link.limits (push_room link) (needed c) (link.received ++ arrived)
  pub call : CommandCall old new c result (Answers of_value result)

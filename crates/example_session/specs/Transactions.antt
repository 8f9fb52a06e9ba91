-- What a transaction comes to, as the answer to it.
use Rattle.std.specs.Prelude.{None, Some, Option, Result, Ok, Err}
use Rattle.resp_core.specs.declared.RedisError.{RedisError}
use Rattle.resp_core.specs.declared.RedisError.TheVariants.{Aborted, Pipeline}
use Rattle.example_session.specs.declared.transactions.Outcome.{Outcome}
use Rattle.example_session.specs.declared.transactions.Outcome.TheVariants.{Done, Overtaken, Refused, Failed}

abbrev pub answer_of : Outcome → Result (Option (Unit {0})) RedisError
answer_of Done = Ok (Some tt)
answer_of Overtaken = Ok None
answer_of (Refused causes) = Err (Aborted causes)
answer_of (Failed errors) = Err (Pipeline errors)

-- A connection that is replaced once it broke.
use Rattle.std.specs.Prelude.{◌≡◌, Option, None, Some, true, false, Result, Ok, Err}
use Rattle.resp_errors.specs.declared.redis_error.RedisError.{RedisError}
use Rattle.resp_command.specs.Connection.{Connection, idle, reconnects}

-- a connection as it is, but for what becomes of it once it broke
abbrev pub replaceable : Connection → Connection
replaceable c = record c { policy = reconnects }

-- one over which nothing came and nothing was sent, for there was none so far
abbrev pub never_dialled : Connection
never_dialled = record (idle true) { pipelines = true; policy = reconnects }

-- the connection that the last link makes, if there was one
abbrev pub reconnecting : {L : Type 0} → (L → Connection) → Option L → Connection
reconnecting of_link None = never_dialled
reconnecting of_link (Some link) = replaceable (of_link link)

-- a link that works
abbrev pub Works : {L : Type 0} → (L → Connection) → Option L → Type 0
Works of_link link = (reconnecting of_link link).broken ≡ false

-- where the last link works it stays; else another that works takes its place, or none is had and
-- nothing changes
pub record Reaches {L : Type 0} (of_link : L → Connection) (old new : Option L)
    (r : Result (Unit {0}) RedisError) : Type 0 where
  pub kept : Works of_link old → (new ≡ old) × (r ≡ Ok tt)
  pub reached : (u : Unit {0}) → r ≡ Ok u → Works of_link new
  pub refused : (e : RedisError) → r ≡ Err e → new ≡ old

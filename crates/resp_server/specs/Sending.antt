-- What sending a value over a sink leaves and answers.
use Rattle.std.specs.Prelude.{◌≡◌, ◌⊎◌, ℕ, List, Option, Some, Result, Ok, Err}
use Rattle.resp_errors.specs.Errors.{error_of_io}
use Rattle.resp_errors.specs.declared.kinds.IoKind.{IoKind}
use Rattle.resp_errors.specs.declared.redis_error.RedisError.{RedisError}
use Rattle.resp_encode.specs.Encodings.{RefusesValue}
use Rattle.resp_link.specs.Sink.{Sink, SendsAll}

-- the bytes were sent, and nothing of them waits
pub record SentBytes (bytes : Option (List ℕ)) (old new : Sink) : Type 0 where
  pub sent : List ℕ
  pub are : bytes ≡ Some sent
  pub all : SendsAll old new sent (Ok tt)

-- the sink failed: a prefix of the bytes was sent
pub record SinkRefuses (bytes : Option (List ℕ)) (old new : Sink) (e : RedisError) : Type 0 where
  pub sent : List ℕ
  pub kind : IoKind
  pub are : bytes ≡ Some sent
  pub failed : SendsAll old new sent (Err kind)
  pub error : e ≡ error_of_io kind

-- the value's bytes were sent; or it has none, or memory ran out, and nothing was sent; or the sink
-- failed
abbrev pub SendsValue : Option (List ℕ) → Sink → Sink → Result (Unit {0}) RedisError → Type 0
SendsValue bytes old new (Ok done) = SentBytes bytes old new
SendsValue bytes old new (Err e) =
    ((new ≡ old) × RefusesValue bytes e) ⊎ SinkRefuses bytes old new e

-- What sending appended bytes does.
use Rattle.std.proofs.Common.{◌≡◌, inl, inr, refl, ℕ, List, [], Option, None, Some, Result, Ok, Err}
use Rattle.std.specs.Fmt.{◌++?◌}
use Rattle.std.specs.Result.{IsErr, IsErrAnd}
use Rattle.std.proofs.lemmas.Result.{err_from_is_err_and}
use Rattle.resp_errors.specs.Errors.{error_of_io}
use Rattle.resp_errors.specs.declared.kinds.IoKind.{IoKind}
use Rattle.resp_errors.specs.declared.redis_error.RedisError.{RedisError}
use Rattle.resp_encode.specs.Encodings.{RefusesValue}
use Rattle.resp_link.specs.Sink.{Sink, SendsAll}
use Rattle.resp_server.specs.Sending.{SendsValue, SentBytes}

-- what was appended to nothing
appended : (bytes : Option (List ℕ)) (b : List ℕ) → (Some [] ++? bytes) ≡ Some b → bytes ≡ Some b
appended None b e = absurd (cc)
appended (Some x) b e = e

pub sent : (bytes : Option (List ℕ)) (b : List ℕ) (old new : Sink) (done : Unit {0}) → (Some [] ++? bytes) ≡ Some b
    → SendsAll old new b (Ok done) → SentBytes bytes old new
sent bytes b old new done e all = record { sent = b; are = appended bytes b e; all = all }

pub failed : (bytes : Option (List ℕ)) (b : List ℕ) (old new : Sink) (kind : IoKind)
    (answer : Result (Unit {0}) RedisError) → (Some [] ++? bytes) ≡ Some b → SendsAll old new b (Err kind)
    → IsErr answer × IsErrAnd answer (λ e. e ≡ error_of_io kind) → SendsValue bytes old new answer
failed bytes b old new kind (Ok done) e all is = absurd (is.1)
failed bytes b old new kind (Err error) e all is = inr (record {
  sent = b;
  kind = kind;
  are = appended bytes b e;
  failed = all;
  error = is.1;
})

-- nothing was sent for what has no bytes
pub not_sent : (bytes : Option (List ℕ)) (old : Sink) (error : RedisError) (answer : Result (Unit {0}) RedisError)
    → IsErrAnd answer (λ e. e ≡ error) → RefusesValue bytes error → SendsValue bytes old old answer
not_sent bytes old error answer is refuses =
    let p = err_from_is_err_and answer is in
    rw (p.1, p.2) (inl (refl, refuses))

-- What a parser's error is that is handed on.
use Rattle.std.proofs.Common.{◌≡◌, inl, ℕ, List, Option, Result, Ok, Err, subst, sym}
use Rattle.std.specs.Result.{IsErr, IsErrAnd}
use Rattle.resp_errors.specs.declared.redis_error.RedisError.{RedisError}
use Rattle.resp_parse.specs.State.{State}
use Rattle.resp_parse.specs.Calls.{Takes}
use Rattle.resp_args.specs.Args.{Args}
use Rattle.resp_server.specs.Taking.{TakesRequest}

pub passed_on : (b : List ℕ) (new : State) (e : RedisError) (answer : Result (Option Args) RedisError)
    → Takes b new (Err e) → IsErr answer × IsErrAnd answer (λ d. d ≡ e) → TakesRequest b new answer
passed_on b new e (Ok request) takes is = absurd (is.1)
passed_on b new e (Err d) takes is = inl (subst (λ x. Takes b new (Err x)) (sym is.1) takes)

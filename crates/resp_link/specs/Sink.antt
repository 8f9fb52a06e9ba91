-- What is known of a place to send bytes to, and what its calls do.
use Rattle.std.specs.Prelude.{◌≡◌, ℕ, ◌<◌, ◌≤◌, Bool, false, List, [], ◌++◌, length, take, Result, Option, IfOk, OnOk}
use Rattle.std.specs.Prelude.{MatchResult}
use Rattle.std.specs.Io.KnownBytes.{Appends, Keeps, WriteAppends}
use Rattle.resp_errors.specs.declared.kinds.IoKind.{IoKind}
use Rattle.resp_parse.specs.Source.{FailureCounted}
use Rattle.resp_command.specs.Connection.{IsPrefix}

pub record Sink : Type 0 where
  -- all bytes that it said it took
  pub sent : List ℕ
  -- those that it holds, where it tells them, as memory does and a socket doesn't
  pub holds : Option (List ℕ)
  -- whether some of them may wait to be flushed
  pub unflushed : Bool
  -- how many calls have failed
  pub failures : ℕ

-- a sink to which nothing was sent
abbrev pub fresh_sink : Option (List ℕ) → Sink
fresh_sink holds = record { sent = []; holds = holds; unflushed = false; failures = 0 }

-- an error counts one failure, and a success none
abbrev pub CountsIfErr : {A : Type 0} → Sink → Sink → Result A IoKind → Type 0
CountsIfErr old new r =
    MatchResult r (λ _. new.failures ≡ old.failures) (λ _. FailureCounted old.failures new.failures)

-- send passed on a prefix of the bytes, and something of any that aren't empty; an error passes on
-- nothing and counts
pub record Sends (old new : Sink) (given : List ℕ) (r : Result ℕ IoKind) : Type 0 where
  pub bound : IfOk r (λ n. n ≤ length given)
  pub some : IfOk r (λ n. 0 < length given → 0 < n)
  pub sent : MatchResult r (λ n. new.sent ≡ old.sent ++ take n given) (λ _. new.sent ≡ old.sent)
  pub holds : WriteAppends old.holds new.holds r given
  pub failures : CountsIfErr old new r

-- flush passed on what waited; an error counts
pub record Flushes (old new : Sink) (r : Result (Unit {0}) IoKind) : Type 0 where
  pub sent : new.sent ≡ old.sent
  pub holds : Keeps old.holds new.holds
  pub failures : CountsIfErr old new r
  pub flushed : OnOk r (new.unflushed ≡ false)

-- the request was sent whole and flushed; or a prefix of it, and a failure was counted
pub record SendsAll (old new : Sink) (q : List ℕ) (r : Result (Unit {0}) IoKind) : Type 0 where
  pub gone : List ℕ
  pub sent : new.sent ≡ old.sent ++ gone
  pub holds : Appends old.holds new.holds gone
  pub part : MatchResult r (λ _. gone ≡ q) (λ _. IsPrefix gone q)
  pub failures : CountsIfErr old new r
  pub flushed : OnOk r (new.unflushed ≡ false)

-- What is known of a source of bytes, and what filling a buffer from it does.
use Rattle.std.specs.Prelude.{◌≡◌, ℕ, ◌+◌, ◌-◌, ◌≤◌, ◌^◌, min, List, [], ◌++◌, length, take, Result, Option, IfOk}
use Rattle.std.specs.Prelude.{MatchResult}
use Rattle.std.specs.Io.KnownBytes.{Consumes, ReadConsumes}
use Rattle.resp_errors.specs.declared.kinds.IoKind.{IoKind}

-- all bytes that came from it; those that it has yet to give, where it tells them, as memory does
-- and a socket doesn't; how often it has failed
pub record Source : Type 0 where
  pub came : List ℕ
  pub to_come : Option (List ℕ)
  pub failures : ℕ

-- a source from which nothing came
abbrev pub fresh_source : Option (List ℕ) → Source
fresh_source to_come = record { came = []; to_come = to_come; failures = 0 }

-- these bytes came from it next
pub record SourceGave (s : Source) (taken : List ℕ) (t : Source) : Type 0 where
  pub came : t.came ≡ s.came ++ taken
  pub to_come : Consumes s.to_come t.to_come taken

-- one more failure, up to the greatest number of 64 bits
abbrev pub FailureCounted : ℕ → ℕ → Type 0
FailureCounted old new = new ≡ min (old + 1) (2 ^ 64 - 1)

-- n bytes came from the source and stand at the start of the buffer; or nothing came and a failure
-- was counted
pub record Fills (old new : Source) (before after : List ℕ) (r : Result ℕ IoKind) : Type 0 where
  pub bound : IfOk r (λ n. n ≤ length before)
  pub came : MatchResult r
      (λ n. new.came ≡ old.came ++ take n after)
      (λ _. new.came ≡ old.came)
  -- where it tells those to come, they are the next ones, and none only at the end
  pub to_come : ReadConsumes old.to_come new.to_come r after
  pub failures : MatchResult r
      (λ _. new.failures ≡ old.failures)
      (λ _. FailureCounted old.failures new.failures)

-- A parser that asked a source once.
use Rattle.std.proofs.Common.{◌≡◌, ℕ, zero, suc, ◌∷◌, ◌<◌, ◌≤◌, true, List, [], ◌++◌, length, take, refl, ap, sym, ◌∙◌}
use Rattle.std.proofs.Common.{subst, arith, Option, Some, None, Ok, Err}
use Rattle.std.specs.Io.KnownBytes.{Keeps, Consumes}
use Rattle.std.proofs.lemmas.List.{append-nil}
use Rattle.resp_errors.specs.Errors.{error_of_io}
use Rattle.resp_errors.specs.declared.kinds.IoKind.{IoKind}
use Rattle.resp_errors.specs.declared.kinds.IoKind.TheVariants.{UnexpectedEof}
use Rattle.resp_errors.specs.declared.redis_error.RedisError.TheVariants as form
use Rattle.resp_parse.specs.State.{State, StandsAfter}
use Rattle.resp_parse.specs.Source.{Source, SourceGave, Fills}
use Rattle.resp_parse.specs.Calls.{Received, Filled, Asks, CannotFill}
use Rattle.resp_parse.proofs.ParserStates.{StandsAfter-works, StandsAfter-since, StandsAfter-from_since}
use Rattle.resp_parse.proofs.ParserStates.{StandsAfter-fed, FailedAfter-failed}

pub take-some : (n : ℕ) (xs : List ℕ) → (n ≡ 0 → ⊥) → 0 < length xs → 0 < length (take n xs)
take-some zero xs some l = absurd (some refl)
take-some (suc n) [] some l = absurd (omega arith)
take-some (suc n) (x ∷ xs) some l = omega arith

take-most : (n : ℕ) (xs : List ℕ) → length (take n xs) ≤ n
take-most zero xs = omega arith
take-most (suc n) [] = omega arith
take-most (suc n) (x ∷ xs) = let h : length (take n xs) ≤ n = take-most n xs in omega arith

pub gave-none : (s : Source) → SourceGave s [] s
gave-none s = record { came = sym (append-nil s.came); to_come = none s.to_come }
  where
    none : (known : Option (List ℕ)) → Consumes known known []
    none None = tt
    none (Some xs) = refl

-- what a read that failed kept
kept : (old new : Option (List ℕ)) → Keeps old new → Consumes old new []
kept None new k = tt
kept (Some xs) None k = k
kept (Some xs) (Some ys) k = sym k

-- a parser that was `old` and stood after b
module _ (old new : State) (b : List ℕ) (h : StandsAfter old b) where
  pub Asks-out_of_memory : new.failed ≡ true → new.since ≡ old.since → (s : Source)
      → CannotFill b form.OutOfMemory new s s
  Asks-out_of_memory w e s = CannotFill.out_of_memory refl (gave-none s) refl (FailedAfter-failed old new b h w e)

  pub Asks-early_end : new.failed ≡ true → new.since ≡ old.since → (s t : Source) (before after : List ℕ) (n : ℕ) → n
      ≡ 0 → 0 < length after → Fills s t before after (Ok n) → CannotFill b (form.Io UnexpectedEof) new s t
  Asks-early_end w e s t before after n z l f =
      CannotFill.early_end refl
      (record {
        came = f.came ∙ ap (λ m. s.came ++ take m after) z;
        to_come = subst
            (λ m. Consumes s.to_come t.to_come (take m after)) z f.to_come.0;
      }) (f.to_come.1 z l) f.failures
      (FailedAfter-failed old new b h w e)

  pub Asks-source_failed : new.failed ≡ old.failed → new.since ≡ old.since
      → (s t : Source) (before after : List ℕ) (kind : IoKind) → Fills s t before after (Err kind)
      → CannotFill b (error_of_io kind) new s t
  Asks-source_failed w e s t before after kind f =
      CannotFill.source_failed kind refl
      (record { came = f.came ∙ sym (append-nil s.came); to_come = kept s.to_come t.to_come f.to_come }) f.failures
      (StandsAfter-from_since new b (w ∙ StandsAfter-works old b h) (StandsAfter-since old b h ∙ sym e))

  filled : (s t : Source) (before after : List ℕ) (n : ℕ) → new.failed ≡ old.failed → new.since ≡ old.since
      ++ take n after → Received (take n after) old new → Fills s t before after (Ok n) → Filled b old new s t
  filled s t before after n w e k f = record {
    filled = take n after;
    source_gave = record { came = f.came; to_come = f.to_come.0 };
    received = k;
    stands = StandsAfter-fed old new b (take n after) h w e;
    failures = f.failures;
  }

  pub Asks-filled : new.failed ≡ old.failed → (s t : Source) (before after : List ℕ) (n : ℕ) → new.since ≡ old.since
      ++ take n after → Received (take n after) old new → Fills s t before after (Ok n) → length before ≤ 4096
      → 0 < length (take n after) → Asks b old new s t (Ok tt)
  unfolding filled
  Asks-filled w s t before after n e k f size some =
      let most : length (take n after) ≤ n = take-most n after in
      let bound : n ≤ length before = f.bound in
      record { more = filled s t before after n w e k f; some = some; size = omega (arith, most, bound, size) }

-- A parser that took and asked by turns answers as a parsing call has to. No body of `StandsAfter` is used.
use Rattle.std.proofs.Common.{◌≡◌, ℕ, ◌+◌, length, List, [], ◌++◌, refl, sym, ap, ◌∙◌, append_assoc, subst, arith}
use Rattle.std.proofs.Common.{Option, Result, Ok, Err, Some, None}
use Rattle.std.proofs.lemmas.Grind.{common_steps}
use Rattle.std.specs.Io.KnownBytes.{Consumes}
use Rattle.std.proofs.lemmas.List.{append-nil}
use Rattle.resp_value.specs.declared.value.Value.{Value}
use Rattle.resp_errors.specs.declared.redis_error.RedisError.{RedisError}
use Rattle.resp_errors.specs.declared.redis_error.RedisError.TheVariants as form
use Rattle.resp_parse.specs.State.{State, StandsAfter, FailedAfter}
use Rattle.resp_parse.specs.Source.{Source, SourceGave, fresh_source}
use Rattle.resp_parse.proofs.Asking.{gave-none}
use Rattle.resp_parse.specs.Calls.{Received, Takes, CannotTake, Filled, Asks, CannotFill, AsNeeded, Parses}
use Rattle.resp_parse.specs.Calls.{ParsesReader, Parsed, Failed, CannotParse}

-- bytes and then others
consumed-more : (s t u : Option (List ℕ)) (a b : List ℕ) → Consumes s t a → Consumes t u b → Consumes s u (a ++ b)
consumed-more None t u a b h k = tt
consumed-more (Some x) None u a b h k = absurd h
consumed-more (Some x) (Some y) None a b h k = k
consumed-more (Some x) (Some y) (Some z) a b h k = h ∙ ap (λ w. a ++ w) k ∙ sym (append_assoc a b z)

-- what was filled since the parser was `old` and stood after b
pub record FilledAsNeeded (b : List ℕ) (old p : State) (s t : Source) : Type 0 where
  pub more : Filled b old p s t
  pub needed : AsNeeded old.limits b more.filled

pub FilledAsNeeded-none : (b : List ℕ) (p : State) (s : Source) → StandsAfter p b → FilledAsNeeded b p p s s
FilledAsNeeded-none b p s h = record {
  more = record {
    filled = [];
    source_gave = gave-none s;
    received = omega arith;
    stands = subst (StandsAfter p) (sym
        (append-nil b)) h;
    failures = refl;
  };
  needed = record {
    before = [];
    last = [];
    whole = refl;
    some = λ _. refl;
    size = omega arith;
    awaited = λ some. absurd
        (some refl);
  };
}

-- after b, the source has filled some bytes, and the parser stands after them
module _ (b : List ℕ) (old p : State) (s t : Source) (k : FilledAsNeeded b old p s t) where
  -- then nothing was received
  Received-no_more : (new : State) → new.counts.received ≡ p.counts.received → Received k.more.filled old new
  Received-no_more new e = e ∙ k.more.received

  pub Parsed-taken : (new : State) (v : Value) → new.limits ≡ old.limits → new.counts.received ≡ p.counts.received
      → Takes (b ++ k.more.filled) new (Ok (Some v)) → Parsed b v old new s t
  Parsed-taken new v d e w = record {
    filled = k.more.filled;
    source_gave = k.more.source_gave;
    received = Received-no_more new e;
    needed = rw d
        k.needed;
    value = w.value;
    rest = w.rest;
    size = w.size;
    failures = k.more.failures;
  }

  Failed-taken : (new : State) → new.limits ≡ old.limits → new.counts.received ≡ p.counts.received
      → FailedAfter new (b ++ k.more.filled) → Failed b k.more.filled old new s t
  Failed-taken new d e h = record {
    source_gave = k.more.source_gave;
    received = Received-no_more new e;
    needed = rw d k.needed;
    failed = h;
    failures = k.more.failures;
  }

  pub CannotParse-taken : (new : State) (e : RedisError) → new.limits ≡ old.limits → new.counts.received
      ≡ p.counts.received → Takes (b ++ k.more.filled) new (Err e) → CannotParse b e old new s t
  CannotParse-taken new e d z (CannotTake.malformed f i w, h) = CannotParse.malformed f k.more.filled i w
      (Failed-taken new d z h)
  CannotParse-taken new e d z (CannotTake.out_of_memory i, h) = CannotParse.out_of_memory k.more.filled i
      (Failed-taken new d z h)

  -- what was filled is incomplete, and the source was asked once more
  module _ (mid : State) (limits : mid.limits ≡ old.limits) (same : mid.counts.received ≡ p.counts.received)
      (w : Takes (b ++ k.more.filled) mid (Ok None)) (u : Source) where
    SourceGave-asked : (more : List ℕ) → SourceGave t more u → SourceGave s (k.more.filled ++ more) u
    SourceGave-asked more c = record {
      came = c.came ∙ ap (λ z. z ++ more) k.more.source_gave.came ∙ append_assoc s.came k.more.filled more;
      to_come = consumed-more s.to_come t.to_come u.to_come k.more.filled more k.more.source_gave.to_come c.to_come;
    }

    SourceGave-none : SourceGave t [] u → SourceGave s k.more.filled u
    SourceGave-none c = record {
      came = c.came ∙ append-nil t.came ∙ k.more.source_gave.came;
      to_come = subst (Consumes s.to_come u.to_come) (append-nil k.more.filled)
          (consumed-more s.to_come t.to_come u.to_come k.more.filled [] k.more.source_gave.to_come c.to_come);
    }

    Received-asked : (new : State) (more : List ℕ) → Received more mid new → Received (k.more.filled ++ more) old new
    Received-asked new more r =
        let before = k.more.received in
        let both : length (k.more.filled ++ more) ≡ length k.more.filled + length more = grind (arith, common_steps) in
        omega (arith, r, same, before, both)

    pub FilledAsNeeded-asked : (new : State) → Asks (b ++ k.more.filled) mid new t u (Ok tt)
        → FilledAsNeeded b old new s u
    FilledAsNeeded-asked new a = record {
      more = record {
        filled = k.more.filled ++ a.more.filled;
        source_gave = SourceGave-asked a.more.filled a.more.source_gave;
        received = Received-asked new a.more.filled a.more.received;
        stands = subst (StandsAfter new) (append_assoc b k.more.filled a.more.filled) a.more.stands;
        failures = a.more.failures ∙ k.more.failures;
      };
      needed = record {
        before = k.more.filled;
        last = a.more.filled;
        whole = refl;
        some = λ e. absurd (let l : length
            a.more.filled ≡ 0 = ap length e in omega (arith, l, a.some));
        size = a.size;
        awaited = λ _. rw (← limits) w.0;
      };
    }

    -- the source gave nothing
    module _ (new : State) (kept : new.limits ≡ mid.limits) (none : new.counts.received ≡ mid.counts.received) where
      Failed-asked : SourceGave t [] u → u.failures ≡ t.failures → FailedAfter new (b ++ k.more.filled)
          → Failed b k.more.filled old new s u
      Failed-asked c f h = record {
        source_gave = SourceGave-none c;
        received = Received-no_more new (none ∙ same);
        needed = rw (kept ∙ limits)
            k.needed;
        failed = h;
        failures = f ∙ k.more.failures;
      }

      pub CannotParse-asked : (e : RedisError) → CannotFill (b ++ k.more.filled) e new t u → CannotParse b e old new s u
      CannotParse-asked e (CannotFill.early_end i c end f h) = CannotParse.early_end k.more.filled i (rw kept w.0) end
          (Failed-asked c f h)
      CannotParse-asked e (CannotFill.source_failed kind i c f h) = CannotParse.source_failed kind i (record {
        filled = k.more.filled;
        source_gave = SourceGave-none c;
        received = Received-no_more new (none ∙ same);
        needed = rw (kept ∙ limits) k.needed;
        awaits = rw kept w.0;
        stands = h;
        failures = rw (← k.more.failures) f;
      })
      CannotParse-asked e (CannotFill.out_of_memory i c f h) = CannotParse.out_of_memory k.more.filled i
          (Failed-asked c f h)

  pub CannotParse-failed : (new : State) (e : RedisError) → new.limits ≡ old.limits → new.counts.received
      ≡ p.counts.received → e ≡ form.OutOfMemory → FailedAfter new (b ++ k.more.filled) → CannotParse b e old new s t
  CannotParse-failed new e d z i h = CannotParse.out_of_memory k.more.filled i (Failed-taken new d z h)

-- a reader that was used up, as the source that counted its failures
pub ParsesReader-source : {R : Type 0} (remaining : R → Option (List ℕ)) (b : List ℕ) (old new : State)
    (reader left : R) (came : List ℕ) (n : ℕ) (s : Source) (r : Result Value RedisError) → s
    ≡ fresh_source (remaining reader) →
    Parses b old new s (record { came = came; to_come = remaining left; failures = n }) r
    → ParsesReader remaining b old new reader r
ParsesReader-source remaining b old new reader left came n s r e h = record {
  left = left;
  failures = n;
  came = came;
  parses = subst
      (λ (x : Source). Parses b old new x (record { came = came; to_come = remaining left; failures = n }) r) e h;
}

-- What the states of a parser say of the bytes since the last value.
use Rattle.std.proofs.Common.{◌≡◌, ℕ, true, false, List, ◌++◌, ◌⊎◌, inl, inr, sym, ap, ◌∙◌}
use Rattle.resp_parse.specs.State.{State, StandsAfter, FailedAfter, IsBetweenValues}

pub StandsAfter-from_since : (s : State) (b : List ℕ) → s.failed ≡ false → b ≡ s.since → StandsAfter s b
unfolding StandsAfter
StandsAfter-from_since s b w e = (w, e)

pub FailedAfter-from_since : (s : State) (b : List ℕ) → s.failed ≡ true → b ≡ s.since → FailedAfter s b
unfolding FailedAfter
FailedAfter-from_since s b w e = (w, e)

pub StandsAfter-since : (s : State) (b : List ℕ) → StandsAfter s b → b ≡ s.since
unfolding StandsAfter
StandsAfter-since s b h = h.1

pub FailedAfter-since : (s : State) (b : List ℕ) → FailedAfter s b → b ≡ s.since
unfolding FailedAfter
FailedAfter-since s b h = h.1

-- a parser that stands works
pub StandsAfter-works : (s : State) (b : List ℕ) → StandsAfter s b → s.failed ≡ false
unfolding StandsAfter
StandsAfter-works s b h = h.0

pub StandsAfter-not_failed : (s : State) (b : List ℕ) → StandsAfter s b → s.failed ≡ true → ⊥
StandsAfter-not_failed s b h e =
    let w : s.failed ≡ false = StandsAfter-works s b h in let k : false ≡ true = sym w ∙ e in cc

pub StandsOrFailed-since : (s : State) (b : List ℕ) → StandsAfter s b ⊎ FailedAfter s b → b ≡ s.since
StandsOrFailed-since s b (inl h) = StandsAfter-since s b h
StandsOrFailed-since s b (inr h) = FailedAfter-since s b h

-- all bytes since the last value are unparsed
pub IsBetweenValues-from_same : (s : State) → s.failed ≡ false → s.since ≡ s.unparsed → IsBetweenValues s
IsBetweenValues-from_same s w e = record {
  stands = StandsAfter-from_since s s.unparsed w (sym e);
  only = λ b h. StandsAfter-since s b h ∙ e;
}

pub IsBetweenValues-same : (s : State) → IsBetweenValues s → s.since ≡ s.unparsed
IsBetweenValues-same s h = sym (StandsAfter-since s s.unparsed h.stands)

-- bytes were added
pub StandsAfter-fed : (old new : State) (b bytes : List ℕ) → StandsAfter old b → new.failed ≡ old.failed → new.since
    ≡ old.since ++ bytes → StandsAfter new (b ++ bytes)
StandsAfter-fed old new b bytes h f e =
    StandsAfter-from_since new (b ++ bytes) (f ∙ StandsAfter-works old b h)
    (ap (λ x. x ++ bytes) (StandsAfter-since old b h) ∙ sym e)

pub IsBetweenValues-fed : (old new : State) (bytes : List ℕ) → new.failed ≡ false → new.since ≡ old.since ++ bytes
    → new.unparsed ≡ old.unparsed ++ bytes → IsBetweenValues old → IsBetweenValues new
IsBetweenValues-fed old new bytes w e k h =
    IsBetweenValues-from_same new w (e ∙ ap (λ x. x ++ bytes) (IsBetweenValues-same old h) ∙ sym k)

-- the parser has failed
pub FailedAfter-failed : (old new : State) (b : List ℕ) → StandsAfter old b → new.failed ≡ true → new.since ≡ old.since
    → FailedAfter new b
FailedAfter-failed old new b h w e = FailedAfter-from_since new b w (StandsAfter-since old b h ∙ sym e)

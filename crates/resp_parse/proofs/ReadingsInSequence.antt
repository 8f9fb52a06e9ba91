-- One reading after another: what comes of the whole comes of a step.
use Rattle.std.proofs.Common.{◌≡◌, List, ℕ, refl}
use Rattle.resp_errors.specs.declared.kinds.FrameFault.{FrameFault}
use Rattle.resp_parse.specs.PlainReading.{ReadOutcome, got, fault, incomplete, then}

-- the first reading has given something, and the second, from where it ended, this outcome
pub record GoesOn {A B : Type 0} (o : ReadOutcome A) (more : A → List ℕ → ReadOutcome B) (outcome : ReadOutcome B) :
    Type 0 where
  pub first : A
  pub mid : List ℕ
  pub got_first : o ≡ got first mid
  pub next : more first mid ≡ outcome

-- the fault is one of the first reading, or one of the second
pub data FaultOfStep {A B : Type 0} (o : ReadOutcome A) (more : A → List ℕ → ReadOutcome B) (f : FrameFault)
    (rest : List ℕ) : Type 0 where
  at_first : o ≡ fault f rest → FaultOfStep o more f rest
  at_next : GoesOn o more (fault f rest) → FaultOfStep o more f rest

pub then-got : {A B : Type 0} (o : ReadOutcome A) (more : A → List ℕ → ReadOutcome B) (y : B) (rest : List ℕ)
    → then o more ≡ got y rest → GoesOn o more (got y rest)
then-got (got x mid) more y rest e = record { first = x; mid = mid; got_first = refl; next = e }
then-got (fault f mid) more y rest e = absurd (cc)
then-got incomplete more y rest e = absurd (cc)

pub then-fault : {A B : Type 0} (o : ReadOutcome A) (more : A → List ℕ → ReadOutcome B) (f : FrameFault) (rest : List ℕ)
    → then o more ≡ fault f rest → FaultOfStep o more f rest
then-fault (got x mid) more f rest e = at_next (record { first = x; mid = mid; got_first = refl; next = e })
then-fault (fault g mid) more f rest e = at_first (let k : g ≡ f = cc in let l : mid ≡ rest = cc in cc)
then-fault incomplete more f rest e = absurd (cc)

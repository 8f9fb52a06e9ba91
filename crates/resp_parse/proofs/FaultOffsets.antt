-- Where the fault stands that a parser answered.
use Rattle.std.proofs.Common.{◌≡◌, ℕ, Bool, true, false, List, ◌++◌, Option, None, Some, IfSome, refl}
use Rattle.resp_errors.specs.declared.redis_error.RedisError.{RedisError}
use Rattle.resp_errors.proofs.IoErrors.{of_both_forms}
use Rattle.resp_parse.specs.declared.limits.Limits.{Limits}
use Rattle.resp_parse.specs.Limited.{FaultShownAt, PassesSize, too_long}
use Rattle.resp_parse.specs.State.{State, HasOffset}
use Rattle.resp_parse.specs.Source.{Source}
use Rattle.resp_parse.specs.Calls.{CannotFill, early_end, source_failed, out_of_memory}
use Rattle.resp_parse.specs.Invariant.{Placed, PassesLimit}
use Rattle.resp_parse.proofs.LimitedReadings.{FaultShownAt-longer}

-- no fault was met
pub Placed-none : (l : Limits) (offset : Option ℕ) (since : List ℕ) (failed : Bool) → offset ≡ None
    → Placed l offset since failed
Placed-none l offset since failed e = record { works = λ _. e; shows = rw e tt }

-- a parser that works may hand out a value, or be given bytes
pub Placed-working : (l l' : Limits) (offset : Option ℕ) (since now : List ℕ) (failed : Bool) → failed ≡ false
    → Placed l offset since failed → Placed l' offset now failed
Placed-working l l' offset since now failed w h = Placed-none l' offset now failed (h.works w)

longer : (l : Limits) (offset : Option ℕ) (since bytes : List ℕ) → IfSome offset (FaultShownAt l since)
    → IfSome offset (FaultShownAt l (since ++ bytes))
longer l None since bytes h = tt
longer l (Some n) since bytes h = FaultShownAt-longer l since bytes n h

-- bytes came
pub Placed-longer : (l : Limits) (offset : Option ℕ) (since now bytes : List ℕ) (failed : Bool) → now ≡ since ++ bytes
    → Placed l offset since failed → Placed l offset now failed
Placed-longer l offset since now bytes failed e h = rw e
    (record { works = h.works; shows = longer l offset since bytes h.shows })

-- the parser has failed
pub Placed-failing : (l l' : Limits) (offset : Option ℕ) (since : List ℕ) (failed : Bool) → l' ≡ l
    → Placed l offset since failed → Placed l' offset since true
Placed-failing l l' offset since failed same h = rw same
    (record { works = λ z. absurd (let y : true ≡ false = z in cc); shows = h.shows })

-- a value passed the limit on its size
pub Placed-passes : (l : Limits) (offset : Option ℕ) (since : List ℕ) (e : RedisError) → PassesSize l since
    → PassesLimit l.bytes e offset → Placed l offset since true
Placed-passes l offset since e h (PassesLimit.fault i j) = rw j
    (record { works = λ z. absurd (let y : true ≡ false = z in cc); shows = too_long refl h })
Placed-passes l offset since e h (PassesLimit.out_of_memory i j) = Placed-none l offset since true j

-- a source that gave nothing makes no fault
pub HasOffset-unfilled : (b : List ℕ) (e : RedisError) (new : State) (s t : Source) (offset : Option ℕ)
    → CannotFill b e new s t → offset ≡ None → HasOffset e offset
HasOffset-unfilled b e new s t offset (early_end i source_gave none failures failed) z = rw i z
HasOffset-unfilled b e new s t offset (source_failed kind i source_gave failures stands) z =
    rw i (of_both_forms (λ f. HasOffset f offset) z (λ k. z) kind)
HasOffset-unfilled b e new s t offset (out_of_memory i source_gave failures failed) z = rw i z

-- What a parser keeps of itself.
use Rattle.std.specs.Prelude.{◌≡◌, ◌↔◌, ◌<◌, ◌≤◌, ◌+◌, ℕ, Bool, true, false, List, [], ◌++◌, length, drop, Option, None}
use Rattle.std.specs.Prelude.{Some, IfSome}
use Rattle.resp_parse.specs.declared.machine.Machine.{Machine}
use Rattle.resp_parse.specs.declared.decoder.Decoder.TheInside.{Inside}
use Rattle.resp_errors.specs.declared.kinds.FrameFault.TheVariants.{TooLong}
use Rattle.resp_errors.specs.declared.parsing_error.ParsingError.TheVariants as parsing
use Rattle.resp_errors.specs.declared.redis_error.RedisError.{RedisError}
use Rattle.resp_errors.specs.declared.redis_error.RedisError.TheVariants as form
use Rattle.resp_parse.specs.Building.{Stands, progress_of}
use Rattle.resp_parse.specs.Counts.{Counts}
use Rattle.resp_parse.specs.Costs.{least_bytes, potential}
use Rattle.resp_parse.specs.PlainReading.{read}
use Rattle.resp_parse.specs.Resume.{resume, fresh_of, IsScanned}
use Rattle.resp_parse.specs.declared.limits.Limits.{Limits}
use Rattle.resp_parse.specs.Limits.{AreLimits}
use Rattle.resp_parse.specs.Limited.{FaultShownAt}

-- what reads on in the unparsed bytes reads on in the bytes since the last value
pub record Resumes {B : Type 0} (m : Machine B) (unparsed since : List ℕ) : Type 0 where
  pub scanned : IsScanned m.body m.scanned unparsed
  pub reads : (more : List ℕ) → read m.depth (since ++ more) ≡ resume m (unparsed ++ more)
  pub fresh : fresh_of m.body m.open_aggregates ≡ true → since ≡ unparsed
  pub begun : fresh_of m.body m.open_aggregates ≡ false → length unparsed < length since
  pub built_within : least_bytes m + length unparsed ≤ length since

-- nothing is in progress
pub record Rests {B : Type 0} (m : Machine B) (unparsed : List ℕ) : Type 0 where
  pub fresh : fresh_of m.body m.open_aggregates ≡ true
  pub none : unparsed ≡ []

-- a parser that has not failed reads on; one that has can still tell whether bytes stand after the
-- last value
pub record Holds {B : Type 0} (m : Machine B) (unparsed since : List ℕ) (failed : Bool) : Type 0 where
  pub resumes : failed ≡ false → Resumes m unparsed since
  pub progress : (since ≡ []) ↔ Rests m unparsed

-- the bytes examined and the calls pay for the iterations made and for the machine's potential;
-- what was received was examined or is unparsed
pub record Balanced {B : Type 0} (m : Machine B) (unparsed : List ℕ) (counts : Counts) : Type 0 where
  pub cost : counts.iterations + potential m ≤ counts.examined + counts.calls
  pub accounted : counts.examined + length unparsed ≡ counts.received + m.scanned

pub record Counted {B : Type 0} (m : Machine B) (unparsed : List ℕ) (counts : Counts) (failed : Bool) : Type 0 where
  pub iterations : counts.iterations ≤ counts.examined + counts.calls
  pub looks : counts.looks ≤ counts.examined
  pub examined : counts.examined ≤ counts.received
  pub works : failed ≡ false → Balanced m unparsed counts

-- the bytes of the value in progress that the machine took are counted. It took them when no more
-- than `most` bytes had come, as many as may spell a value; later ones it has not looked at
pub record CountsTaken {B : Type 0} (most : ℕ) (m : Machine B) (unparsed since : List ℕ) (count : ℕ) : Type 0 where
  pub counted : count + length unparsed ≡ length since
  pub kept : List ℕ
  pub before : List ℕ
  pub later : List ℕ
  pub unparsed_is : unparsed ≡ kept ++ later
  pub since_is : since ≡ before ++ later
  pub resumes : Resumes m kept before
  pub few : length before ≤ most

-- where a fault was met, bytes since the last value show it; a parser that works has met none
pub record Placed (l : Limits) (offset : Option ℕ) (since : List ℕ) (failed : Bool) : Type 0 where
  pub works : failed ≡ false → offset ≡ None
  pub shows : IfSome offset (FaultShownAt l since)

-- a value that passes its limit is a fault, shown by the byte that passes it; no memory holds one
-- that passes the greatest limit
pub data PassesLimit (most : ℕ) (e : RedisError) (offset : Option ℕ) : Type 0 where
  fault : e ≡ form.Parse (parsing.Fault TooLong) → offset ≡ Some (most + 1) → PassesLimit most e offset
  out_of_memory : e ≡ form.OutOfMemory → offset ≡ None → PassesLimit most e offset

-- the limits that a parser keeps in its parts
abbrev pub limits_of : {B : Type 0} → Machine B → ℕ → ℕ → Limits
limits_of m most pushes = record { depth = m.depth; bytes = most; pushes = pushes }

pub record Invariant {B R : Type 0} (S : Stands B) (p : Inside B R) : Type 0 where
  pub consumed : p.consumed ≤ length p.buffer.items
  pub limits : AreLimits (limits_of p.machine p.size_limit p.push_limit)
  pub depth : length p.machine.open_aggregates ≤ p.machine.depth
  pub holds : Holds p.machine (drop p.consumed p.buffer.items) p.since p.failed
  pub counted : Counted p.machine (drop p.consumed p.buffer.items) p.counts p.failed
  pub taken : p.failed ≡ false →
      CountsTaken p.size_limit p.machine (drop p.consumed p.buffer.items) p.since p.taken
  pub builds : p.failed ≡ false →
      S p.machine.builder p.machine.open_aggregates (progress_of p.machine.body)
  pub placed : Placed (limits_of p.machine p.size_limit p.push_limit) p.fault_offset p.since p.failed

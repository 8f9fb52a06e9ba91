-- Bytes of a body that go straight to it.
use Rattle.std.specs.Prelude.{◌≡◌, ◌+◌, ◌≤◌, ℕ, true, List, [], ◌++◌, length, Option, None, Some, Result, Ok, Err}
use Rattle.resp_parse.specs.declared.body.Body.{Body}
use Rattle.resp_parse.specs.declared.machine.Machine.{Machine}
use Rattle.resp_parse.specs.Counts.{Counts}
use Rattle.resp_parse.specs.Resume.{resume, fresh_of, IsScanned}
use Rattle.resp_parse.specs.Costs.{least_bytes, potential}

-- how many bytes the open body lacks
abbrev pub lacks_of : Option Body → ℕ
lacks_of None = 0
lacks_of (Some b) = b.missing

-- the bytes were taken into the open body, in one iteration at most, and none where there are none
pub record FilledOpenBody {B : Type 0} (old : Machine B) (bytes : List ℕ) (new : Machine B) (c d : Counts) : Type
    0 where
  pub same : (more : List ℕ) → resume old (bytes ++ more) ≡ resume new more
  pub depth : new.depth ≡ old.depth
  pub open_aggregates : new.open_aggregates ≡ old.open_aggregates
  pub looked : new.scanned ≡ old.scanned
  pub fresh : fresh_of new.body new.open_aggregates ≡ fresh_of old.body old.open_aggregates
  pub none : fresh_of old.body old.open_aggregates ≡ true → bytes ≡ []
  pub scanned : (bs : List ℕ) → IsScanned old.body old.scanned bs →
      IsScanned new.body new.scanned bs
  pub built_within : least_bytes new ≡ least_bytes old
  pub potential : potential new ≡ potential old
  pub counts : d ≡ record c { iterations = d.iterations; examined = c.examined + length bytes }
  pub iterations : d.iterations ≤ c.iterations + 1
  pub paid : d.iterations ≤ c.iterations + length bytes

-- or memory ran out, and nothing else changed
abbrev pub FillsOpenBody : {B : Type 0} {E : Type 0} → Machine B → List ℕ → Machine B → Counts → Counts →
    Result (Unit {0}) E → Type 0
FillsOpenBody old bytes new c d (Ok u) = FilledOpenBody old bytes new c d
FillsOpenBody old bytes new c d (Err e) = (new ≡ record old { builder = new.builder }) × (d ≡ c)

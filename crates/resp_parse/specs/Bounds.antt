-- What a parser has done and built, bounded by the bytes that came.
use Rattle.std.specs.Prelude.{◌≡◌, ◌≤◌, ◌+◌, ◌*◌, ℕ, false, List, length, drop, Result, Ok, Err}
use Rattle.resp_parse.specs.Counts.{Counts}
use Rattle.resp_parse.specs.State.{State}

-- the buffered bytes that were not looked at
abbrev pub not_looked_at : State → List ℕ
not_looked_at s = drop s.looked s.unparsed

-- all bytes that came were looked at or are kept to be looked at; of the value in progress, one
-- value for three bytes that were looked at stands in memory at most, or two tokens, whatever
-- lengths are announced; and these bytes are at most as many as may spell a value
pub record WorksWithin (s : State) : Type 0 where
  pub accounted : s.counts.examined + length (not_looked_at s) ≡ s.counts.received
  pub values : 3 * s.values + length (not_looked_at s) ≤ length s.since
  pub tokens : 3 * s.tokens + 2 * length (not_looked_at s) ≤ 2 * length s.since
  pub size : length s.since ≤ s.limits.bytes + length (not_looked_at s)

-- the iterations are at most one for each byte that was looked at and one for each call; of these,
-- the looks at a byte of a line are at most as many as the bytes looked at; at most as many
-- aggregates are open as levels are read. Only iterations that the code counts are seen here: none
-- is counted for copying bytes, or for making a value of a line or a body that is all there
pub record Bounded (s : State) : Type 0 where
  pub iterations : s.counts.iterations ≤ s.counts.examined + s.counts.calls
  pub looks : s.counts.looks ≤ s.counts.examined
  pub examined : s.counts.examined ≤ s.counts.received
  pub open_aggregates : s.open_aggregates ≤ s.limits.depth
  pub works : s.failed ≡ false → WorksWithin s

-- n bytes were fed by one call
pub record FedBy (n : ℕ) (c d : Counts) : Type 0 where
  pub calls : d.calls ≡ c.calls + 1
  pub received : d.received ≡ c.received + n

-- one call was made, and no byte came
pub record OneCall (c d : Counts) : Type 0 where
  pub calls : d.calls ≡ c.calls + 1
  pub received : d.received ≡ c.received

-- a call asked a source and counted one call, and one more at most for each byte that came
abbrev pub CallsWithin : Counts → Counts → Type 0
CallsWithin c d = d.calls + c.received ≤ c.calls + 1 + d.received

-- asking a source counts no call; some bytes came, or none where it is refused
abbrev pub AskedFor : {X E : Type 0} → Counts → Counts → Result X E → Type 0
AskedFor c d (Ok x) = (d.calls ≡ c.calls) × (c.received + 1 ≤ d.received)
AskedFor c d (Err e) = (d.calls ≡ c.calls) × (d.received ≡ c.received)

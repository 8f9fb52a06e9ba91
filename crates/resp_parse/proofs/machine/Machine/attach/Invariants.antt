use Rattle.std.proofs.Common.{◌≡◌, ◌≤◌, ◌+◌, ◌*◌, length, List, ℕ, None}
use Rattle.resp_parse.specs.Building.{whole}
use Rattle.resp_parse.specs.Resume.{place}
use Rattle.resp_parse.specs.Built.{built}
use Rattle.resp_parse.specs.Costs.{aggregates_least_bytes, aggregates_potential}
use Rattle.resp_parse.proofs.machine.Machine.attach.Given as goal

abbrev pub invariant-loop-value : goal.invariant-loop-value
invariant-loop-value g l = record {
  same : (more : List ℕ) → place l.fn.self.depth l.fn.self.open_aggregates l.fn.value more
      ≡ place l.fn.self.depth l.self.open_aggregates l.value more;
  limit : l.self.depth ≡ l.fn.self.depth;
  depth : length l.self.open_aggregates ≤ l.self.depth;
  builds : g.B.Builder.stands l.self.builder l.self.open_aggregates (whole l.value);
  no_body : l.self.body ≡ None;
  scanned : l.self.scanned ≡ l.fn.self.scanned;
  built_within : aggregates_least_bytes l.self.open_aggregates + 3 * built l.value ≤ aggregates_least_bytes
      l.fn.self.open_aggregates + 3 * built l.fn.value;
  places : l.counts.iterations + aggregates_potential l.self.open_aggregates ≤ l.fn.counts.iterations +
      aggregates_potential l.fn.self.open_aggregates;
  iterations : l.counts ≡ record l.fn.counts { iterations = l.counts.iterations };
}

abbrev pub decreases-loop-value : goal.decreases-loop-value
decreases-loop-value g l = length l.self.open_aggregates

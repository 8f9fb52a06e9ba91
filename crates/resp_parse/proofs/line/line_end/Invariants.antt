use Rattle.std.proofs.Common.{◌≡◌, ◌≤◌, ◌+◌, ◌-◌, length}
use Rattle.resp_parse.specs.Lines.{NoneBefore}
use Rattle.resp_parse.proofs.line.line_end.Given as goal

-- each byte that was looked at is one iteration
abbrev pub invariant-loop-at : goal.invariant-loop-at
invariant-loop-at l = record {
  none : NoneBefore l.bytes l.at;
  same : l.counts ≡ record l.fn.counts { iterations = l.counts.iterations; looks = l.counts.looks };
  each : l.counts.iterations + l.fn.counts.looks ≡ l.fn.counts.iterations + l.counts.looks;
  iterations : l.counts.iterations + (l.scanned - 1) + 1 ≤ l.fn.counts.iterations + l.at;
  most : l.counts.iterations + (l.scanned - 1) ≤ l.fn.counts.iterations + (length l.bytes - 1);
}

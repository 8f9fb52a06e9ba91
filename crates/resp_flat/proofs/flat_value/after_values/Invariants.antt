use Rattle.std.proofs.Common.{◌≡◌, ◌≤◌, length}
use Rattle.resp_flat.specs.FlatValues.{after_values}
use Rattle.resp_flat.proofs.flat_value.after_values.Given as goal

abbrev pub decreases-loop-values : goal.decreases-loop-values
decreases-loop-values l = length l.rest

abbrev pub invariant-loop-values : goal.invariant-loop-values
invariant-loop-values l = record {
  same : after_values l.count l.tokens ≡ after_values l.values l.rest;
  fewer : length l.rest ≤ length l.tokens;
}

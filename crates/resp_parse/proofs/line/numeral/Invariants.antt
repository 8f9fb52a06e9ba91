use Rattle.std.proofs.Common.{◌≡◌, ◌<◌, ◌≤◌, ◌+◌, ◌^◌, ℕ, true, take, get_or, length}
use Rattle.std.specs.Char.{is_ascii_digit}
use Rattle.std.specs.Str.Parse.{digits_value}
use Rattle.resp_parse.specs.Costs.{LooksAlone}
use Rattle.resp_parse.proofs.line.numeral.Given as goal

-- the value so far is that of the digits so far, and each but the first is one iteration
abbrev pub invariant-loop-at : goal.invariant-loop-at
invariant-loop-at l = record {
  some : 1 ≤ l.at;
  within : l.at ≤ length l.bytes;
  digits : (k : ℕ) → k < l.at → is_ascii_digit (get_or l.bytes k 0) ≡ true;
  value : l.value ≡ digits_value 10 (take l.at l.bytes);
  small : l.value < 2 ^ 63;
  looks : LooksAlone l.fn.counts l.counts;
  iterations : l.counts.iterations + 1 ≡ l.fn.counts.iterations + l.at;
}

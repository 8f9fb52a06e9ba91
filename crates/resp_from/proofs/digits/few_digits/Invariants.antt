use Rattle.std.proofs.Common.{◌≡◌, ◌<◌, ◌^◌, take}
use Rattle.std.specs.Str.Parse.{AllDigits, digits_value}
use Rattle.resp_from.proofs.digits.few_digits.Given as goal

-- the value so far is that of the digits so far
abbrev pub invariant-loop-at : goal.invariant-loop-at
invariant-loop-at l = record {
  digits : AllDigits 10 (take l.at l.bytes);
  value : l.value ≡ digits_value 10 (take l.at l.bytes);
  small : l.value < 10 ^ 18;
}

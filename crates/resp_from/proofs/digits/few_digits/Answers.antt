use Rattle.std.proofs.Common.{◌≡◌, ◌+◌, ◌-◌, ◌*◌, ◌≤◌, true, length, take, get_or, sym, ◌∙◌, arith}
use Rattle.std.proofs.lemmas.Int.Digits.{digits_more, digits_value_more}
use Rattle.std.proofs.lemmas.Str.{digit_value_digit}
use Rattle.std.specs.Char.{is_ascii_digit}
use Rattle.std.specs.Str.Parse.{digits_value}
use Rattle.resp_errors.proofs.Digits.{digit_range}
use Rattle.resp_from.proofs.DigitBytes.{digits_small, digits_utf8}
use Rattle.resp_from.proofs.digits.few_digits.Goals as goal

pub loop-at-preserved : goal.loop-at-preserved
loop-at-preserved c =
    let bytes = c.args.bytes.now in
    let byte = get_or bytes c.loop-at.at 0 in
    let digit : is_ascii_digit byte ≡ true = sym c.is_ascii_digit.ensures.value ∙ c.if-not-is_ascii_digit.false in
    let range = digit_range byte digit in
    let worth = digit_value_digit byte range in
    let more = digits_value_more 10 bytes c.loop-at.at c.loop-at-test.true in
    let digits = digits_more 10 bytes c.loop-at.at c.loop-at-test.true c.loop-at.invariant.digits
    (omega (arith, worth, range.1)) in
    let few : length bytes ≤ 18 = omega arith in
    let value : c.loop-at.value * 10 + (byte - 48) ≡ digits_value 10 (take (c.loop-at.at + 1) bytes) = omega
    (arith, more, worth, range.0, c.loop-at.invariant.value) in
    record {
      digits = digits;
      value = value;
      small = omega (arith, value, digits_small bytes (c.loop-at.at + 1) few digits);
    }

pub returns-clause-text : goal.returns-clause-text
returns-clause-text c =
    let all : length c.args.bytes.now ≤ c.loop-at.at = omega arith in
    digits_utf8 c.args.bytes.now c.loop-at.at all c.loop-at.invariant.digits

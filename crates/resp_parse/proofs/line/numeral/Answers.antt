use Rattle.std.proofs.Common.{◌≡◌, ◌+◌, ◌-◌, true, get_or, subst, ap, sym, ◌∙◌, arith, rules, Some}
use Rattle.std.proofs.lemmas.Int.Digits.{digits_value_more}
use Rattle.std.specs.Char.{is_ascii_digit, digit_value}
use Rattle.resp_parse.specs.Counts.{Counts}
use Rattle.resp_parse.specs.Resume.{FindsLine}
use Rattle.resp_errors.proofs.Digits.{digit_range}
use Rattle.resp_parse.proofs.FewDigits.{digit-value, digit-next, none_in-digits, numeral-of}
use Rattle.resp_parse.proofs.LineAt.{line-at}
use Rattle.resp_parse.proofs.line.numeral.Goals as goal

pub returns-then-bytes-at-eq10-clause-line : goal.returns-then-bytes-at-eq10-clause-line
returns-then-bytes-at-eq10-clause-line c =
    let bytes = c.args.bytes.now in
    let at = c.loop-at.at in
    let i = c.loop-at.invariant in
    let e : (at + 1) - 1 ≡ at = omega arith in
    let cr : get_or bytes ((at + 1) - 1) 0 ≡ 13 = rw e c.if-byte-eq13.true in
    let found = line-at bytes (at + 1) (omega arith) (none_in-digits bytes at i.digits) c.if-at-bytes.true cr
    c.if-bytes-at-eq10.true in (
      subst (λ n. FindsLine bytes (Some n)) e found,
      numeral-of bytes at i.some i.within i.digits c.loop-at.value i.value
          i.small,
    )

pub loop-at-preserved : goal.loop-at-preserved
loop-at-preserved c =
    let bytes = c.args.bytes.now in
    let at = c.loop-at.at in
    let i = c.loop-at.invariant in
    let byte = get_or bytes at 0 in
    let d : is_ascii_digit byte ≡ true = sym c.is_ascii_digit-in-loop-at.ensures.value
    ∙ c.if-not-is_ascii_digit-2.false in
    let v : digit_value byte ≡ byte - 48 = digit-value byte d in
    let more = digits_value_more 10 bytes at c.loop-at-test.true in
    record {
      some = omega arith;
      within = omega (arith, c.loop-at-test.true);
      digits = λ k l. digit-next bytes at d i.digits k l;
      value = omega (arith, more, v, i.value);
      small = omega (arith, digit_range byte d, c.if-value-ge-LARGE.false);
      looks = search rules;
      iterations = omega (arith, i.iterations, ap (λ (t : Counts). t.iterations) c.look.ensures);
    }

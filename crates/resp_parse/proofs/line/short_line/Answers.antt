use Rattle.std.proofs.Common.{◌≡◌, ◌∙◌, true, get_or, sym, arith}
use Rattle.std.specs.Char.{is_ascii_digit}
use Rattle.resp_parse.proofs.ShortBulks.{line-of-one, line-of-two}
use Rattle.resp_parse.proofs.line.short_line.Goals as goal

pub returns-then-bytes-eq13-clause-line : goal.returns-then-bytes-eq13-clause-line
returns-then-bytes-eq13-clause-line c =
    let bs = c.args.bytes.now in
    let first : is_ascii_digit (get_or bs 0 0) ≡ true = sym c.is_ascii_digit.ensures.value
    ∙ c.if-not-is_ascii_digit.false in
    line-of-one bs first (omega arith) c.if-bytes-eq13.true c.if-bytes-ne10.false

pub returns-clause-line : goal.returns-clause-line
returns-clause-line c =
    let bs = c.args.bytes.now in
    let first : is_ascii_digit (get_or bs 0 0) ≡ true = sym c.is_ascii_digit.ensures.value
    ∙ c.if-not-is_ascii_digit.false in
    let second : is_ascii_digit (get_or bs 1 0) ≡ true = sym c.is_ascii_digit-else-bytes-lt4.ensures.value
    ∙ c.if-not-is_ascii_digit-2.false in
    line-of-two bs first second (omega arith) c.if-bytes-ne13.false c.if-bytes-ne10-2.false

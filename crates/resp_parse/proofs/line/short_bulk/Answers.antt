use Rattle.std.proofs.Common.{◌≡◌, ◌+◌, ◌-◌, ◌*◌, ◌∙◌, List, ℕ, length, take, drop, true, get_or, sym, subst, arith}
use Rattle.std.proofs.lemmas.Grind.{common_steps}
use Rattle.std.specs.Char.{is_ascii_digit}
use Rattle.resp_parse.specs.Resume.{BeginsWithBody}
use Rattle.resp_parse.proofs.ShortBulks.{one-digit, two-digits}
use Rattle.resp_parse.proofs.line.short_bulk.Goals as goal

pub returns-then-after-eq13-clause-bulk : goal.returns-then-after-eq13-clause-bulk
returns-then-after-eq13-clause-bulk c =
    let bs = c.args.after.now in
    let first : is_ascii_digit (get_or bs 0 0) ≡ true = sym c.is_ascii_digit.ensures.value
    ∙ c.if-not-is_ascii_digit.false in
    let x : take (length bs - 3) (drop 3 bs) ≡ drop 3 bs = grind (arith, common_steps) in
    let b = subst (λ (s : List ℕ). BeginsWithBody (get_or bs 0 0 - 48) s c.in_ok-body.body.now) x
    c.in_ok-body.ensures.body in
    one-digit bs first (omega arith) c.if-after-eq13.true c.if-after-ne10.false c.in_ok-body.body.now b

pub returns-clause-bulk : goal.returns-clause-bulk
returns-clause-bulk c =
    let bs = c.args.after.now in
    let first : is_ascii_digit (get_or bs 0 0) ≡ true = sym c.is_ascii_digit.ensures.value
    ∙ c.if-not-is_ascii_digit.false in
    let second : is_ascii_digit (get_or bs 1 0) ≡ true = sym c.is_ascii_digit-2.ensures.value
    ∙ c.if-not-is_ascii_digit-2.false in
    let x : take (length bs - 4) (drop 4 bs) ≡ drop 4 bs = grind (arith, common_steps) in
    let n = (get_or bs 0 0 - 48) * 10 + (get_or bs 1 0 - 48) in
    let b = subst (λ (s : List ℕ). BeginsWithBody n s c.in_ok-body-2.body.now) x c.in_ok-body-2.ensures.body in
    two-digits bs first second (omega arith) c.if-after-ne13.false c.if-after-ne10-2.false c.in_ok-body-2.body.now b

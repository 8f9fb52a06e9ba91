use Rattle.std.proofs.Common.{◌≡◌, ◌+◌, ◌∷◌, [], ◌/◌, ◌%◌, ◌∙◌, ℕ, ap, sym, arith, refl}
use Rattle.std.specs.Prelude.{decimal}
use Rattle.std.proofs.lemmas.Fmt.{decimal_digit, decimal_step}
use Rattle.resp_command.proofs.FramesInPlace.{line_written}
use Rattle.resp_command.proofs.frames.put_line.Goals as goal

pub returns-then-len-lt10-clause-items : goal.returns-then-len-lt10-clause-items
returns-then-len-lt10-clause-items c =
    let one : decimal c.args.len ≡ c.digit.result ∷ [] = decimal_digit c.args.len (omega arith)
    ∙ ap (λ d. d ∷ []) (sym c.digit.ensures) in
    line_written c.args.len (c.digit.result ∷ []) c.args.free.now c.put.new.free one c.put.ensures

pub returns-then-len-lt10-clause-size : goal.returns-then-len-lt10-clause-size
returns-then-len-lt10-clause-size c = rw (decimal_digit c.args.len (omega arith)) refl

pub returns-clause-items : goal.returns-clause-items
returns-clause-items c =
    let n : ℕ = c.args.len in
    let two : decimal n ≡ (48 + n / 10) ∷ (48 + n % 10) ∷ [] = decimal_step n (omega arith) (omega arith)
    ∙ rw (decimal_digit (n / 10) (omega arith)) refl in
    let digits : decimal n ≡ c.digit-2.result ∷ c.digit-3.result ∷ [] = two
    ∙ rw (c.digit-2.ensures, c.digit-3.ensures) refl in
    line_written n (c.digit-2.result ∷ c.digit-3.result ∷ []) c.args.free.now c.put-2.new.free digits c.put-2.ensures

pub returns-clause-size : goal.returns-clause-size
returns-clause-size c =
    let n : ℕ = c.args.len in
    let two : decimal n ≡ (48 + n / 10) ∷ (48 + n % 10) ∷ [] = decimal_step n (omega arith) (omega arith)
    ∙ rw (decimal_digit (n / 10) (omega arith)) refl in
    rw two refl

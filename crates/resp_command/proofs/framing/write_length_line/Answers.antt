use Rattle.std.proofs.Common.{◌≡◌, ◌+◌, ◌∷◌, [], ◌/◌, ◌%◌, ◌∙◌, ℕ, arith, refl, rules}
use Rattle.std.specs.Prelude.{decimal}
use Rattle.std.proofs.lemmas.Fmt.{decimal_digit, decimal_step}
use Rattle.resp_command.proofs.framing.write_length_line.Goals as goal

pub returns-then-len-lt10-clause-written : goal.returns-then-len-lt10-clause-written
returns-then-len-lt10-clause-written c = rw (decimal_digit c.args.len (omega arith)) (search rules)

pub returns-then-len-lt100-clause-written : goal.returns-then-len-lt100-clause-written
returns-then-len-lt100-clause-written c =
    let n : ℕ = c.args.len in
    let two : decimal n ≡ (48 + n / 10) ∷ (48 + n % 10) ∷ [] = decimal_step n (omega arith) (omega arith)
    ∙ rw (decimal_digit (n / 10) (omega arith)) refl in
    rw two (search rules)

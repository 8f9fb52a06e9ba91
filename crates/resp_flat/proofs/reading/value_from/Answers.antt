use Rattle.std.proofs.Common.{◌∙◌, ◌≤◌, length, sym, refl, arith}
use Rattle.resp_flat.proofs.ReadSteps.{from_token, beyond_text, malformed_token}
use Rattle.resp_flat.proofs.reading.value_from.Goals as goal

pub returns-then-at-text : goal.returns-then-at-text
returns-then-at-text c = beyond_text c.args.text.now 1000 c.args.token.now c.args.others.now (omega arith)

pub returns-then-not-may_stand : goal.returns-then-not-may_stand
returns-then-not-may_stand c =
    malformed_token c.args.text.now 1000 999 c.args.token.now c.args.others.now refl
    (sym c.may_stand.ensures ∙ c.if-not-may_stand.true)

pub returns : goal.returns
returns c =
    let inside : c.args.token.now.start ≤ length c.args.text.now = omega arith in
    from_token c.args.text.now 1000 999 c.args.token.now c.args.others.now c.after_token.result _ refl inside
    (sym c.may_stand.ensures ∙ c.if-not-may_stand.false) c.after_token.ensures

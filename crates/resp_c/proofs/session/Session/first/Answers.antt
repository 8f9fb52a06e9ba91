use Rattle.std.proofs.Common.{ap, sym, ◌∙◌}
use Rattle.resp_c.proofs.Outcomes.{first_beside}
use Rattle.resp_c.proofs.session.Session.first.Goals as goal

pub returns-clause-first : goal.returns-clause-first
returns-clause-first c =
    first_beside c.args.bytes.now c.take_first-status.new.taken c.take_first-status.result c.take_first-status.new.self
    c.replace-held.result
    (ap (λ p. p.limits) c.replace-held.ensures.value ∙ sym (c.take_first-status.ensures.limits ∙ ap (λ p. p.limits) c.replace-held.ensures.after ∙ c.in-Ok.ensures.limits
    ∙ c.limits.ensures.limits))
    c.take_first-status.ensures.first

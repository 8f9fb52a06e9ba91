use Rattle.std.proofs.Common.{sym, ap, ◌∙◌, subst}
use Rattle.resp_parse.specs.State.{State, StandsAfter}
use Rattle.resp_parse.proofs.ParserStates.{StandsAfter-not_failed}
use Rattle.resp_parse.proofs.decoder.Decoder.take.Goals as goal

pub returns-then-self-clause-takes : goal.returns-then-self-clause-takes
returns-then-self-clause-takes g c = λ b h. absurd
    (StandsAfter-not_failed c.args.self.now b h (sym (ap (λ (s : State). s.failed) c.self.view_is) ∙ c.if-self.true))

pub returns-in-Err-clause-takes : goal.returns-in-Err-clause-takes
returns-in-Err-clause-takes g c = λ b h.
    let same = c.waits.ensures.same c.if-waits.false in
    rw c.refusal.ensures.refusal (c.in-Err.ensures.takes b (subst (λ s. StandsAfter s b) (sym same) h))

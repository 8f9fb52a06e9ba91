use Rattle.std.proofs.Common.{◌≡◌, ◌∙◌, ap, sym, subst, IfSome}
use Rattle.resp_parse.specs.Invariant.{limits_of}
use Rattle.resp_parse.specs.Limited.{FaultShownAt}
use Rattle.resp_parse.specs.State.{State}
use Rattle.resp_parse.proofs.ParserStates.{FailedAfter-since}
use Rattle.resp_parse.proofs.decoder.Decoder.fault_offset.Goals as goal

pub returns-clause-shows : goal.returns-clause-shows
returns-clause-shows g c = λ b h.
    let since : b ≡ c.self.inside.since = FailedAfter-since c.args.self.now b h
    ∙ sym (ap (λ (s : State). s.since) c.self.view_is) in
    let limits = ap (λ (s : State). s.limits) c.self.view_is in
    rw (← limits) (subst (λ x. IfSome c.self.inside.fault_offset (FaultShownAt (limits_of c.self.inside.machine
    c.self.inside.size_limit c.self.inside.push_limit) x)) (sym since) c.self.invariant.placed.shows)

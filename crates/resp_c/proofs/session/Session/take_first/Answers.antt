use Rattle.std.proofs.Common.{[], refl, arith}
use Rattle.resp_c.proofs.Outcomes.{fed_stands, first_taken}
use Rattle.resp_c.proofs.session.Session.take_first.Goals as goal

pub returns-then-status-eq-FAULT-clause-first : goal.returns-then-status-eq-FAULT-clause-first
returns-then-status-eq-FAULT-clause-first c =
    let stands = fed_stands c.args.bytes.now c.args.self.now c.feed.new.self c.feed.result c.feed.ensures.fed
    (omega (arith, c.if-feed-ne-DONE.false)) [] c.requires.stands in
    first_taken c.args.bytes.now c.feed.new.self c.next-status.new.self _ c.next-status.result stands
    c.next-status.ensures.taken (λ e. absurd (c.if-status-eq-DONE.false e)) (λ e. refl)
    (λ a b. absurd (b c.if-status-eq-FAULT.true))

pub returns-else-status-eq-FAULT-clause-first : goal.returns-else-status-eq-FAULT-clause-first
returns-else-status-eq-FAULT-clause-first c =
    let stands = fed_stands c.args.bytes.now c.args.self.now c.feed.new.self c.feed.result c.feed.ensures.fed
    (omega (arith, c.if-feed-ne-DONE.false)) [] c.requires.stands in
    first_taken c.args.bytes.now c.feed.new.self c.next-status.new.self _ c.next-status.result stands
    c.next-status.ensures.taken (λ e. absurd (c.if-status-eq-DONE.false e))
    (λ e. absurd (c.if-status-eq-FAULT.false e)) (λ a b. c.requires.taken)

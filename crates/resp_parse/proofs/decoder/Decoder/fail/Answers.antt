use Rattle.std.proofs.Common.{◌≡◌, ap, refl, drop, true, false}
use Rattle.resp_parse.specs.State.{State}
use Rattle.resp_parse.proofs.ParserStates.{FailedAfter-failed}
use Rattle.resp_parse.proofs.Holding.{Holds-failing}
use Rattle.resp_parse.proofs.Counting.{Counted-failing, Bounded-from_kept}
use Rattle.resp_parse.proofs.decoder.Decoder.fail.Goals as goal

pub returns-clause-fails : goal.returns-clause-fails
returns-clause-fails g c = λ b h. FailedAfter-failed c.args.self.now _ b h refl
    (ap (λ (s : State). s.since) c.self.view_is)

pub returns-clause-bounds : goal.returns-clause-bounds
returns-clause-bounds g c =
    let u = drop c.self.inside.consumed c.self.inside.buffer.items in
    Bounded-from_kept c.self.inside.size_limit c.self.inside.machine u c.self.inside.since true c.self.inside.counts
    c.self.inside.taken c.self.invariant.depth
    (Holds-failing c.self.inside.machine u c.self.inside.since c.self.inside.failed c.self.invariant.holds)
    (Counted-failing c.self.inside.machine u c.self.inside.counts c.self.inside.failed c.self.invariant.counted)
    (λ e. absurd (let z : true ≡ false = e in cc))
    _ _ (λ e. absurd (let z : true ≡ false = e in cc))

pub returns-clause-counts : goal.returns-clause-counts
returns-clause-counts g c = ap (λ (s : State). s.counts) c.self.view_is

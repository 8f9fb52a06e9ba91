use Rattle.resp_parse.proofs.Counting.{bounded}
use Rattle.resp_parse.proofs.decoder.Decoder.unparsed.Goals as goal

pub returns-clause-bounds : goal.returns-clause-bounds
returns-clause-bounds g c =
    let kept = c.self.invariant in
    rw (← c.self.view_is) (bounded kept _ _ (λ w. g.met.B.Builder.paid_for _ _ _ (kept.builds w)))

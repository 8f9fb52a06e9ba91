use Rattle.std.proofs.Common.{◌≡◌, true, false, sym, ◌∙◌, arith}
use Rattle.resp_pipeline.proofs.Conclusions.{concluded}
use Rattle.resp_pipeline.proofs.pipeline.Pipeline.outcome.Goals as goal

pub returns : goal.returns
returns g c = record {
  plain = λ plain. absurd (let k : true ≡ false = sym c.if-not-self.false ∙ rw (← c.self.view_is) at plain in cc);
  atomic = λ _. concluded c.args.self.now g.T.FromRedisValue.of_value c.conclude.result c.pop.new.self.items
      c.args.replies.items c.in-Some.last (rw c.in-Some.is at c.pop.ensures.items) c.conclude.ensures;
  short = λ _ few. absurd (omega (arith, few, c.if-len-lt2.false, c.len.ensures));
}

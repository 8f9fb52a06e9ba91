use Rattle.std.proofs.Common.{◌<◌, length, arith, sym, ◌∙◌}
use Rattle.resp_pipeline.proofs.KeptItems.{pass_over, take_in}
use Rattle.resp_pipeline.proofs.composing.keep.Goals.{then-not-is_ignored, else-not-is_ignored}
use Rattle.resp_pipeline.proofs.composing.keep.Goals as goal

pub loop-position-preserved : goal.loop-position-preserved
loop-position-preserved c =
    let so_far = c.loop-position.invariant in
    let long = so_far.long in
    let within : c.loop-position.position < length c.loop-position.items.items = omega (arith, c.args.items.now.ok.0) in
    elim c.if-not-is_ignored.branch [
      | then-not-is_ignored w ↦ rw (w.items-is, w.len-is)
          (take_in so_far within (sym c.is_ignored.ensures ∙ w.if-not-is_ignored.true) w.swap.ensures.by_index
          (omega (arith, w.swap.ensures.len, c.loop-position.items.ok.0, w.swap.new.self.ok.0)))
      | else-not-is_ignored w ↦ rw (w.items-is, w.len-is)
          (pass_over so_far within (sym c.is_ignored.ensures ∙ w.if-not-is_ignored.false))
    ]

use Rattle.std.proofs.Common.{◌≡◌, ◌∙◌, ℕ, List, is_ok, if◌then◌else◌, ap, sym, arith}
use Rattle.resp_command.specs.EncodedArgs.{longer}
use Rattle.resp_command.specs.declared.frames.Frames.TheInside.{Inside}
use Rattle.resp_command.proofs.FramesInPlace.{many_alone, spilled}
use Rattle.resp_command.proofs.frames.Frames.extend_last.Goals.{then-self-gt0+in_ok-spill, else-self-gt0}
use Rattle.resp_command.proofs.frames.Frames.extend_last.Goals as goal

pub returns-clause-items : goal.returns-clause-items
returns-clause-items c =
    let seen : (c.if-self-gt0.self-inside.used ≡ 0) × (c.if-self-gt0.self-inside.many.items ≡ c.args.self.now) =
    elim c.if-self-gt0.branch [
      | then-self-gt0+in_ok-spill w ↦ (
        ap (λ (i : Inside). i.used) w.self-inside-is,
        ap (λ (i : Inside). i.many.items) w.self-inside-is
            ∙ spilled c.self.inside.used c.self.inside.few c.self.inside.many.items _ c.self.invariant
            w.if-self-gt0.true w.in_ok-spill.ensures ∙ c.self.view_is,
      )
      | else-self-gt0 w ↦
          let none : c.self.inside.used ≡ 0 = omega (arith, w.if-self-gt0.false) in (
            ap (λ (i : Inside). i.used) w.self-inside-is ∙ none,
            ap (λ (i : Inside). i.many.items) w.self-inside-is
                ∙ sym (many_alone c.self.inside.used c.self.inside.few c.self.inside.many.items none) ∙ c.self.view_is,
          )
    ] in
    many_alone _ c.if-self-gt0.self-inside.few c.extend_frame.new.bytes.items seen.0 ∙ c.extend_frame.ensures.items
    ∙ ap (λ (bs : List ℕ). if is_ok c.extend_frame.result then longer bs c.args.start c.args.from c.args.more.now else bs) seen.1

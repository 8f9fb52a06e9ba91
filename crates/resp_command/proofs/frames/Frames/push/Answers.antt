use Rattle.std.proofs.Common.{◌≡◌, ◌++◌, List, ℕ, [], length, take, arith, ap, ◌∙◌}
use Rattle.std.proofs.lemmas.Grind.{common_steps}
use Rattle.resp_command.specs.Packed.{bulk}
use Rattle.resp_command.proofs.FramesInPlace.{behind_none, written_behind}
use Rattle.resp_command.proofs.frames.Frames.push.Goals as goal

pub returns-then-self-arg-clause-items : goal.returns-then-self-arg-clause-items
returns-then-self-arg-clause-items c =
    let few : List ℕ = c.self.inside.few in
    let used : ℕ = c.self.inside.used in
    let none : c.self.inside.many.items ≡ [] = grind (arith, common_steps, c.is_empty.ensures, c.if-is_empty.true) in
    let first : length (take used few) ≡ used = grind (arith, common_steps, c.self.invariant.fits, c.self.told) in
    let frames = written_behind few c.put_frame.new.free (bulk c.args.arg.now) _ _ used c.put_frame.result first
    c.put_frame.ensures.items c.put_frame.ensures.size in
    ap (λ l. l ++ c.self.inside.many.items) frames
    ∙ behind_none (take used few) (bulk c.args.arg.now) c.self.inside.many.items none
    ∙ ap (λ l. l ++ bulk c.args.arg.now) c.self.view_is

use Rattle.std.proofs.Common.{◌≡◌, refl, ◌+◌, ◌++◌, ◌∷◌, [], ◌∙◌, ℕ, List, Option, Some, ap, sym, subst, length}
use Rattle.resp_command.specs.Pieces.{Keeps, sent_args}
use Rattle.resp_command.proofs.PiecesAgree.{keeps_added, sent-counted, sent-cursor-added}
use Rattle.resp_command.proofs.command.Cmd.push_cursor_arg.Goals as goal

pub invariant_of-self-2 : goal.invariant_of-self-2
invariant_of-self-2 c =
    let inside = c.self.inside in
    let n : c.count-place.result ≡ length inside.encoded_args + length inside.cursors.items =
    c.count-place.ensures ∙ sym (ap (λ d. length d.args) c.self.view_is)
    ∙ sent-counted inside.cursor inside.cursors.items inside.encoded_args in
    let kept = keeps_added inside.cursor c.args.cursor inside.cursors.items inside.encoded_args c.count-place.result
    c.self.invariant n in
    subst (λ (cursor : Option ℕ). Keeps cursor c.push.new.self.items inside.encoded_args) (sym c.replace.ensures.after)
    (subst (λ (cursors : List ℕ). Keeps (Some c.args.cursor) cursors inside.encoded_args)
    (sym c.in_ok-push.ensures.items) kept)

pub returns-clause-added : goal.returns-clause-added
returns-clause-added c =
    let inside = c.self.inside in
    let place : c.count-place.result ≡ length (sent_args inside.cursor inside.cursors.items inside.encoded_args) =
    c.count-place.ensures ∙ sym (ap (λ d. length d.args) c.self.view_is) in
    let n : c.count-place.result ≡ length inside.encoded_args + length inside.cursors.items = place
    ∙ sent-counted inside.cursor inside.cursors.items inside.encoded_args in
    let texts = sent-cursor-added c.args.cursor inside.cursor inside.cursors.items inside.encoded_args
    c.count-place.result c.self.invariant.are_interleaved n in
    let pushed = c.in_ok-push.ensures.items in
    let args = ap (λ (cursors : List ℕ). sent_args (Some c.args.cursor) cursors inside.encoded_args) pushed
    ∙ sym texts in
    let places = pushed ∙ ap (λ (k : ℕ). inside.cursors.items ++ k ∷ []) place in
    let cursor = c.replace.ensures.after in
    rw (← c.self.view_is, cursor) (rw (← args, ← places) refl)

use Rattle.std.proofs.Common.{rules, ◌≡◌, ◌++◌, ◌∙◌, ℕ, List, OnOk, Some, ap, length, sym, subst, map}
use Rattle.std.specs.Prelude.{decimal}
use Rattle.resp_args.specs.Args.{Args}
use Rattle.resp_command.specs.Cursors.{with_text_at}
use Rattle.resp_command.specs.Packed.{packed}
use Rattle.resp_command.specs.Pieces.{sent, sent_args, interleaved}
use Rattle.resp_command.proofs.PiecesAgree.{sent-plain, sent-set}
use Rattle.resp_command.proofs.command.Cmd.append_packed.Goals as goal

pub returns-then-is_empty-clause-written : goal.returns-then-is_empty-clause-written
returns-then-is_empty-clause-written c =
    let inside = c.self.inside in
    let none : length inside.cursors.items ≡ 0 = search rules in
    let again = sent-set c.args.cursor inside.cursor inside.cursors.items inside.encoded_args
    c.self.invariant.are_interleaved in
    let same : inside.encoded_args ≡ with_text_at (decimal c.args.cursor) c.args.self.now.cursors c.args.self.now.args =
    sym (sent-plain (decimal c.args.cursor) inside.cursors.items inside.encoded_args none) ∙ sym again
    ∙ ap (λ d. with_text_at (decimal c.args.cursor) d.cursors d.args) c.self.view_is in
    subst (λ (args : Args). OnOk c.append_frames.result
    (c.append_frames.new.out.items ≡ c.args.out.now.items ++ packed args)) same c.append_frames.ensures.written

pub returns-clause-written : goal.returns-clause-written
returns-clause-written c =
    let inside = c.self.inside in
    let text : c.as_bytes-text.result.now ≡ decimal c.args.cursor = c.as_bytes-text.ensures.value
    ∙ c.format.ensures.text in
    let pieces : map (sent c.as_bytes-text.result.now) (interleaved 0 c.as_slice.result.now inside.encoded_args)
    ≡ sent_args (Some c.args.cursor) inside.cursors.items inside.encoded_args =
    ap (λ (places : List ℕ). map (sent c.as_bytes-text.result.now) (interleaved 0 places inside.encoded_args))
    c.as_slice.ensures.value ∙ ap (λ (t : List ℕ). map (sent t)
    (interleaved 0 inside.cursors.items inside.encoded_args)) text in
    let again = sent-set c.args.cursor inside.cursor inside.cursors.items inside.encoded_args
    c.self.invariant.are_interleaved in
    let same : map (sent c.as_bytes-text.result.now) (interleaved 0 c.as_slice.result.now inside.encoded_args)
    ≡ with_text_at (decimal c.args.cursor) c.args.self.now.cursors c.args.self.now.args =
    pieces ∙ sym again ∙ ap (λ d. with_text_at (decimal c.args.cursor) d.cursors d.args) c.self.view_is in
    subst (λ (args : Args). OnOk c.append_pieces.result
    (c.append_pieces.new.out.items ≡ c.args.out.now.items ++ packed args)) same c.append_pieces.ensures.written

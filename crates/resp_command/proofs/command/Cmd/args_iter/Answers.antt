use Rattle.std.proofs.Common.{◌≡◌, ◌∙◌, ap, sym, ℕ, List}
use Rattle.resp_command.specs.ShownArgs.{args_left}
use Rattle.resp_command.specs.Pieces.{interleaved}
use Rattle.resp_command.proofs.PiecesAgree.{shown_pieces, holds_cursor}
use Rattle.resp_command.proofs.command.Cmd.args_iter.Goals as goal

pub returns-clause-shown : goal.returns-clause-shown
returns-clause-shown c =
    let inside = c.self.inside in
    let h = c.self.invariant.are_interleaved in
    let left : args_left c.over.result ≡ interleaved 0 inside.cursors.items inside.encoded_args = c.over.ensures
    ∙ ap (λ (places : List ℕ). interleaved 0 places inside.encoded_args) c.as_slice.ensures.value in
    rw (← c.self.view_is) (left ∙ sym (shown_pieces inside.cursor inside.cursors.items inside.encoded_args h))

pub returns-clause-cursors : goal.returns-clause-cursors
returns-clause-cursors c =
    let inside = c.self.inside in
    rw (← c.self.view_is) (holds_cursor inside.cursor inside.cursors.items inside.encoded_args c.self.invariant)

use Rattle.std.proofs.Common.{◌∙◌, ap, sym}
use Rattle.std.specs.List.{flat_map}
use Rattle.resp_command.specs.Packed.{bulk}
use Rattle.resp_command.specs.Pieces.{Pieces, ordinary}
use Rattle.resp_command.proofs.PiecesAgree.{shown_pieces}
use Rattle.resp_command.proofs.command.Cmd.framed.Goals as goal

pub returns : goal.returns
returns c =
    let inside = c.self.inside in
    let h = c.self.invariant.are_interleaved in
    let shown = shown_pieces inside.cursor inside.cursors.items inside.encoded_args h in
    rw (← c.self.view_is) (c.as_bytes.ensures ∙ ap (flat_map bulk) h.args_are
    ∙ ap (λ (pieces : Pieces). flat_map bulk (ordinary pieces)) (sym shown))

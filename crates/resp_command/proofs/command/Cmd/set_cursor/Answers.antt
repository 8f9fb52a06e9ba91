use Rattle.std.proofs.Common.{Some, ap, sym}
use Rattle.resp_args.specs.Args.{Args}
use Rattle.resp_command.proofs.PiecesAgree.{sent-set}
use Rattle.resp_command.proofs.command.Cmd.set_cursor.Goals as goal

pub returns : goal.returns
returns c =
    let inside = c.self.inside in
    rw (← c.self.view_is) (ap (λ (args : Args). record {
      args = args;
      no_response = inside.no_response;
      cursor = Some c.args.cursor;
      cursors = inside.cursors.items;
    })
    (sym (sent-set c.args.cursor inside.cursor inside.cursors.items inside.encoded_args
    c.self.invariant.are_interleaved)))

use Rattle.std.proofs.Common.{◌≡◌, IfOk, subst}
use Rattle.std.specs.Prelude.{decimal}
use Rattle.resp_args.specs.Args.{Args}
use Rattle.resp_command.specs.Cursors.{with_text_at}
use Rattle.resp_command.specs.Packed.{packed_or_none}
use Rattle.resp_command.proofs.PiecesAgree.{sent-as_set}
use Rattle.resp_command.proofs.command.Cmd.get_packed_command.Goals as goal

pub returns-clause-packed : goal.returns-clause-packed
returns-clause-packed c =
    let inside = c.self.inside in
    let n = c.unwrap_or.result in
    let same : with_text_at (decimal n) c.args.self.now.cursors c.args.self.now.args ≡ c.args.self.now.args =
    subst (λ d. with_text_at (decimal n) d.cursors d.args ≡ d.args) c.self.view_is
    (sent-as_set inside.cursor inside.cursors.items inside.encoded_args n c.self.invariant c.unwrap_or.ensures) in
    subst (λ (args : Args). IfOk c.get_packed_command_with_cursor.result (λ bytes. bytes.items ≡ packed_or_none args))
    same c.get_packed_command_with_cursor.ensures.packed

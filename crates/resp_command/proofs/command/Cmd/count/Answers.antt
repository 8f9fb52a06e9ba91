use Rattle.std.proofs.Common.{◌≡◌, ap, length, arith, rules}
use Rattle.resp_command.proofs.PiecesAgree.{sent-counted}
use Rattle.resp_command.proofs.command.Cmd.count.Goals as goal

pub returns : goal.returns
returns c =
    let inside = c.self.inside in
    let view = ap (λ d. length d.args) c.self.view_is in
    let n : c.len.result ≡ length inside.encoded_args = search rules in
    let m : c.len-2.result ≡ length inside.cursors.items = search rules in
    omega (arith, n, m, view, sent-counted inside.cursor inside.cursors.items inside.encoded_args)

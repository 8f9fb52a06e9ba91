use Rattle.std.proofs.Common.{◌≡◌, ◌++◌, ◌∙◌, ap, subst, rules}
use Rattle.std.specs.Prelude.{decimal}
use Rattle.resp_args.specs.Args.{Args}
use Rattle.resp_command.specs.Cursors.{with_text_at}
use Rattle.resp_command.specs.Packed.{packed}
use Rattle.resp_command.proofs.PiecesAgree.{sent-as_set}
use Rattle.resp_command.proofs.command.Cmd.write_packed_command.Goals as goal

pub returns-clause-written : goal.returns-clause-written
returns-clause-written c =
    let inside = c.self.inside in
    let n = c.unwrap_or.result in
    let same : with_text_at (decimal n) c.args.self.now.cursors c.args.self.now.args ≡ c.args.self.now.args =
    subst (λ d. with_text_at (decimal n) d.cursors d.args ≡ d.args) c.self.view_is
    (sent-as_set inside.cursor inside.cursors.items inside.encoded_args n c.self.invariant c.unwrap_or.ensures) in
    c.in_default.ensures.written ∙ ap (λ (args : Args). c.args.out.now.items ++ packed args) same

pub returns-in-Err-clause-unchanged : goal.returns-in-Err-clause-unchanged
returns-in-Err-clause-unchanged c = search rules

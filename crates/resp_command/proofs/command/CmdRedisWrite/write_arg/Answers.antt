use Rattle.std.proofs.Common.{◌++◌, ◌∷◌, [], ◌∙◌, ap, sym, subst}
use Rattle.resp_args.specs.Args.{Args}
use Rattle.resp_command.specs.Pieces.{Keeps, sent_args}
use Rattle.resp_command.proofs.PiecesAgree.{keeps_appended, sent-appended}
use Rattle.resp_command.proofs.command.CmdRedisWrite.write_arg.Goals as goal

pub invariant_of-self-2 : goal.invariant_of-self-2
invariant_of-self-2 c =
    let inside = c.self.inside in
    subst (λ (args : Args). Keeps inside.cursor inside.cursors.items args) (sym c.in_ok-push.ensures)
    (keeps_appended inside.cursor inside.cursors.items inside.encoded_args (c.args.arg.now ∷ []) c.self.invariant)

pub returns-clause-ok : goal.returns-clause-ok
returns-clause-ok c =
    let inside = c.self.inside in
    ap (λ (args : Args). sent_args inside.cursor inside.cursors.items args) c.in_ok-push.ensures
    ∙ sent-appended inside.cursor inside.cursors.items inside.encoded_args (c.args.arg.now ∷ [])
    c.self.invariant.are_interleaved ∙ ap (λ d. d.args ++ c.args.arg.now ∷ []) c.self.view_is

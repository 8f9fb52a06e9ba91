use Rattle.std.proofs.Common.{◌∙◌, ap}
use Rattle.resp_args.specs.Args.{Args, extended}
use Rattle.resp_command.proofs.FramedArgs.{extended-then}
use Rattle.resp_command.proofs.encoded_args.EncodedArgs.push_both.Goals as goal

pub returns : goal.returns
returns c = c.in_default.ensures ∙ ap (λ (args : Args). extended args c.args.more.now) c.in_ok-push.ensures
    ∙ extended-then c.args.self.now c.args.arg.now c.args.more.now

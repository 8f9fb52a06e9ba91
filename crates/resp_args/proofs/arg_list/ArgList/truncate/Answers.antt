use Rattle.std.proofs.Common.{sym, ap, ◌∙◌, take}
use Rattle.std.proofs.lemmas.List.{take-map}
use Rattle.resp_args.proofs.arg_list.ArgList.truncate.Goals as goal

pub returns : goal.returns
returns c = rw c.truncate.ensures.items
    (sym (take-map (λ v. v.items) c.args.len c.self.inside.args.items) ∙ ap (take c.args.len) c.self.view_is)

use Rattle.std.proofs.Common.{◌∙◌}
use Rattle.resp_flat.proofs.Shown.{count_shown}
use Rattle.resp_flat.proofs.flat_value.FlatValue.len.Goals as goal

pub returns : goal.returns
returns c = record { shown = λ v shows. c.count.ensures ∙ count_shown c.args.self.now v shows }

use Rattle.std.proofs.Common.{◌∙◌}
use Rattle.resp_flat.proofs.Shown.{int_shown}
use Rattle.resp_flat.proofs.flat_value.FlatValue.as_int.Goals as goal

pub returns : goal.returns
returns c = record { shown = λ v shows. c.int.ensures ∙ int_shown c.args.self.now v shows }

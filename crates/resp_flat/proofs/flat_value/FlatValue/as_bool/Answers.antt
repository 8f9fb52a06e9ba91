use Rattle.std.proofs.Common.{◌∙◌}
use Rattle.resp_flat.proofs.Shown.{truth_shown}
use Rattle.resp_flat.proofs.flat_value.FlatValue.as_bool.Goals as goal

pub returns : goal.returns
returns c = record { shown = λ v shows. c.truth.ensures ∙ truth_shown c.args.self.now v shows }

use Rattle.resp_flat.proofs.Shown.{kind_shown}
use Rattle.resp_flat.proofs.flat_value.FlatValue.kind.Goals as goal

pub returns-clause-shown : goal.returns-clause-shown
returns-clause-shown c = λ v shows. kind_shown c.args.self.now v shows

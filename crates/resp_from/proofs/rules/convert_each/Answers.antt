use Rattle.std.proofs.Common.{rules}
use Rattle.resp_from.proofs.rules.convert_each.Goals as goal

pub returns : goal.returns
returns g c = record { converts = c.convert_elements.ensures.converts c.args.replies.items (search rules) }

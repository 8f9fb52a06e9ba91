use Rattle.std.proofs.Common.{rules}
use Rattle.resp_link.proofs.link.ByteLink.over_with_limits.Goals as goal

pub returns-clause-made : goal.returns-clause-made
returns-clause-made g c = search rules

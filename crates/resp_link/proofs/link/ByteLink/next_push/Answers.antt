use Rattle.std.proofs.Common.{rules}
use Rattle.resp_link.proofs.link.ByteLink.next_push.Goals as goal

pub returns : goal.returns
returns g c = search rules

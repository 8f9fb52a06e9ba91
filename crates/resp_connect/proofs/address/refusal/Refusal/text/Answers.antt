use Rattle.std.proofs.Common.{rules}
use Rattle.resp_connect.proofs.address.refusal.Refusal.text.Goals as goal

pub returns-in-Password : goal.returns-in-Password
returns-in-Password c = search rules

use Rattle.std.proofs.Common.{rules}
use Rattle.resp_connect.proofs.greeting.falls_back.Goals as goal

pub returns-in-PreferRESP3 : goal.returns-in-PreferRESP3
returns-in-PreferRESP3 c = search rules

use Rattle.std.proofs.Common.{rules}
use Rattle.resp_connect.specs.Schemes.{transport_of}
use Rattle.resp_connect.proofs.address.transport.Transport.of.Goals as goal

pub returns-in-rediss : goal.returns-in-rediss
unfolding transport_of
returns-in-rediss c = search rules

pub returns-in-rediss-2 : goal.returns-in-rediss-2
unfolding transport_of
returns-in-rediss-2 c = search rules

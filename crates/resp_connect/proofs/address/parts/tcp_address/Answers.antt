use Rattle.std.proofs.Common.{rules}
use Rattle.resp_connect.specs.Addresses.{tcp_address}
use Rattle.resp_connect.proofs.address.parts.tcp_address.Goals as goal

pub returns : goal.returns
unfolding tcp_address
returns c = search rules

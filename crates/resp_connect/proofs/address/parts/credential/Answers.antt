use Rattle.std.proofs.Common.{rules}
use Rattle.resp_connect.specs.Addresses.{credential}
use Rattle.resp_connect.proofs.address.parts.credential.Goals as goal

pub returns-then-is_empty : goal.returns-then-is_empty
unfolding credential
returns-then-is_empty c = search rules

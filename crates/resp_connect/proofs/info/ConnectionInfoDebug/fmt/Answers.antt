use Rattle.std.proofs.Common.{rules}
use Rattle.resp_connect.proofs.info.ConnectionInfoDebug.fmt.Goals as goal

pub returns : goal.returns
returns c = search rules

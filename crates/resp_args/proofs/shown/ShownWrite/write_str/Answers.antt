use Rattle.std.proofs.Common.{rules}
use Rattle.resp_args.proofs.shown.ShownWrite.write_str.Goals as goal

pub returns : goal.returns
returns c = search rules

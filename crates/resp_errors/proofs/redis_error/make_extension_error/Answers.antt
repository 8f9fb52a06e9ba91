use Rattle.std.proofs.Common.{rules}
use Rattle.resp_errors.proofs.redis_error.make_extension_error.Goals as goal

pub returns : goal.returns
returns c = search rules

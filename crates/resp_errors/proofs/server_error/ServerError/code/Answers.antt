use Rattle.std.proofs.Common.{rules}
use Rattle.resp_errors.proofs.server_error.ServerError.code.Goals as goal

pub returns-in-Extension : goal.returns-in-Extension
returns-in-Extension c = search rules

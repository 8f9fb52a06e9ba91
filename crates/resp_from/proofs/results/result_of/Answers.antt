use Rattle.std.proofs.Common.{rules}
use Rattle.resp_from.proofs.results.result_of.Goals as goal

pub returns-in-ServerError : goal.returns-in-ServerError
returns-in-ServerError g c = search rules

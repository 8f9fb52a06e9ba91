use Rattle.std.proofs.Common.{rules}
use Rattle.resp_parse.proofs.value_of.verbatim_of.Goals as goal

pub returns-in-Some : goal.returns-in-Some
returns-in-Some c = search rules

pub returns : goal.returns
returns c = search rules

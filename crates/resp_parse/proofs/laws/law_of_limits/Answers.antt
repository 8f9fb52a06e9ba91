use Rattle.resp_parse.proofs.LimitedReadings.{found, one_reading}
use Rattle.resp_parse.proofs.laws.law_of_limits.Goals as goal

pub returns-clause-some : goal.returns-clause-some
returns-clause-some c = found

pub returns-clause-one : goal.returns-clause-one
returns-clause-one c = one_reading

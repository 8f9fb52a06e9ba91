use Rattle.std.proofs.Common.{rules}
use Rattle.resp_from.proofs.conversion.from_redis_value_by.Goals as goal

pub returns-in_err-via-clause-converts : goal.returns-in_err-via-clause-converts
returns-in_err-via-clause-converts g c = search rules

pub returns-in_err-via-clause-errors : goal.returns-in_err-via-clause-errors
returns-in_err-via-clause-errors g c = search rules

pub returns-clause-converts : goal.returns-clause-converts
returns-clause-converts g c = search rules

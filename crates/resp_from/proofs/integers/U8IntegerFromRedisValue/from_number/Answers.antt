use Rattle.std.proofs.Common.{rules}
use Rattle.resp_from.proofs.integers.U8IntegerFromRedisValue.from_number.Goals as goal

pub returns : goal.returns
returns c = search rules

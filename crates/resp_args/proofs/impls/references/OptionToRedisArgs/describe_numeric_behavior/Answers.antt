use Rattle.std.proofs.Common.{rules}
use Rattle.resp_args.proofs.impls.references.OptionToRedisArgs.describe_numeric_behavior.Goals as goal

pub returns-in-Some : goal.returns-in-Some
returns-in-Some g c = search rules

use Rattle.std.proofs.Common.{rules}
use Rattle.resp_args.proofs.impls.sorted_maps.BTreeMapToRedisArgs.num_of_args.Goals as goal

pub returns : goal.returns
returns g c = search rules

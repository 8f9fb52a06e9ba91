use Rattle.std.proofs.Common.{drop}
use Rattle.resp_args.specs.Kept.{Stays}
use Rattle.resp_args.proofs.GrowingArgs.{Progress}
use Rattle.resp_args.proofs.args.ToRedisArgs.write_each_arg.Given as goal

abbrev pub invariant-loop-item : goal.invariant-loop-item
invariant-loop-item g l = Progress g.Self.ToRedisArgs.gives g.Self.ToRedisArgs.refuses l.items
    (drop l.item-index l.items) (g.W.RedisWrite.args l.fn.out) (g.W.RedisWrite.args l.out)
    × Stays g.W.RedisWrite.kept l.fn.out l.out

use Rattle.resp_args.specs.Args.{GivesPair, RefusesPair}
use Rattle.resp_args.specs.Kept.{Stays}
use Rattle.resp_args.proofs.GrowingArgs.{Progress}
use Rattle.resp_args.proofs.impls.hashed_maps.write_pairs.Given as goal

abbrev pub invariant-loop-key : goal.invariant-loop-key
invariant-loop-key g l = Progress (GivesPair g.K.ToRedisArgs.gives g.V.ToRedisArgs.gives)
    (RefusesPair g.K.ToRedisArgs.count g.V.ToRedisArgs.count g.K.ToRedisArgs.refuses g.V.ToRedisArgs.refuses)
    l.fn.pairs.entries l.key-iterator (g.W.RedisWrite.args l.fn.out) (g.W.RedisWrite.args l.out)
    × Stays g.W.RedisWrite.kept l.fn.out l.out

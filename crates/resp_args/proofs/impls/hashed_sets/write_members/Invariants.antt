use Rattle.resp_args.specs.Kept.{Stays}
use Rattle.resp_args.proofs.GrowingArgs.{Progress}
use Rattle.resp_args.proofs.impls.hashed_sets.write_members.Given as goal

abbrev pub invariant-loop-member : goal.invariant-loop-member
invariant-loop-member g l = Progress g.T.ToRedisArgs.gives g.T.ToRedisArgs.refuses l.fn.members.keys l.member-iterator
    (g.W.RedisWrite.args l.fn.out) (g.W.RedisWrite.args l.out) × Stays g.W.RedisWrite.kept l.fn.out l.out

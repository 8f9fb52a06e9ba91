use Rattle.std.proofs.Common.{[], map}
use Rattle.resp_args.specs.Kept.{Stays}
use Rattle.resp_args.proofs.GrowingArgs.{Progress}
use Rattle.resp_args.proofs.args.ToRedisArgs.make_arg_iter_ref.Given as goal

abbrev pub invariant-loop-value : goal.invariant-loop-value
invariant-loop-value g l =
    (goal.iterator-loop-value g).can_next l.value-iterator × (goal.iterator-loop-value g).is_finite l.value-iterator
    × Progress g.Self.ToRedisArgs.gives g.Self.ToRedisArgs.refuses (map (λ item. item.now) l.yielded) []
    (g.W.RedisWrite.args l.fn.out) (g.W.RedisWrite.args l.out)
    × Stays g.W.RedisWrite.kept l.fn.out l.out

use Rattle.resp_args.proofs.GrowingArgs.{writes_both, fails_first, fails_second}
use Rattle.resp_args.proofs.impls.tuples.Tuple2ToRedisArgs.write_redis_args.Goals as goal

pub returns-in_err-write_redis_args-clause-failed : goal.returns-in_err-write_redis_args-clause-failed
returns-in_err-write_redis_args-clause-failed g c =
    let x = c.args.self.now in
    fails_first (g.A.ToRedisArgs.gives x.0) (g.A.ToRedisArgs.fails x.0) (g.B.ToRedisArgs.fails x.1) _ _
    c.from_residual.result _ c.in_err-write_redis_args.ensures.failed c.from_residual.ensures

pub returns-clause-written : goal.returns-clause-written
returns-clause-written g c = writes_both _ _ _ _ _ _ _ c.write_redis_args-2.result
    c.in_ok-write_redis_args.ensures.written c.write_redis_args-2.ensures.written

pub returns-clause-failed : goal.returns-clause-failed
returns-clause-failed g c =
    let x = c.args.self.now in
    fails_second _ _ _ (g.A.ToRedisArgs.fails x.0) (g.B.ToRedisArgs.fails x.1) _ _ _ c.write_redis_args-2.result
    c.in_ok-write_redis_args.ensures.written.0 c.write_redis_args-2.ensures.written
    c.write_redis_args-2.ensures.failed

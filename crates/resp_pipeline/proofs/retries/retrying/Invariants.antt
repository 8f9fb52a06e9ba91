use denote.Param.Always.{always_mut}
use Rattle.std.specs.Fn.{CalledAt}
use Rattle.resp_pipeline.proofs.SoFar.{SoFar}
use Rattle.resp_pipeline.proofs.retries.retrying.Given as goal

abbrev pub invariant-loop-answer : goal.invariant-loop-answer
invariant-loop-answer g l = record {
  decides : always_mut g.G.FnMut l.initial.again → always_mut g.G.FnMut l.again;
  so_far : SoFar (g.A.Attempt.attempts l.attempt) (CalledAt g.G.FnMut) l.budget l.initial.again
      ((goal.ConnectionLike-dyn g l.initial.con.now).connection l.initial.con.now.1) l.left l.again
      ((goal.ConnectionLike-dyn g l.con.now).connection l.con.now.1);
}

abbrev pub decreases-loop-answer : goal.decreases-loop-answer
decreases-loop-answer g l = l.left

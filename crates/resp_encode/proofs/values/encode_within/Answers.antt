use Rattle.std.proofs.Common.{rules}
use Rattle.resp_encode.specs.Appending.{AppendsText}
use Rattle.resp_encode.proofs.Levels.{refusal_of}
use Rattle.resp_encode.proofs.values.encode_within.Goals as goal

pub returns-in-Err-clause-refused : goal.returns-in-Err-clause-refused
returns-in-Err-clause-refused c = refusal_of c.in-Err.error _ _ _ _ c.in-Err.ensures c.refusal.ensures

pub returns-in-Err-clause-unchanged : goal.returns-in-Err-clause-unchanged
unfolding AppendsText
returns-in-Err-clause-unchanged c = search rules

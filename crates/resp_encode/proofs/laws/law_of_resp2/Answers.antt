use Rattle.resp_encode.proofs.Resp2Forms.{typed, unchanged, idempotent}
use Rattle.resp_encode.proofs.laws.law_of_resp2.Goals as goal

pub returns-clause-typed : goal.returns-clause-typed
returns-clause-typed c = typed

pub returns-clause-unchanged : goal.returns-clause-unchanged
returns-clause-unchanged c = unchanged

pub returns-clause-idempotent : goal.returns-clause-idempotent
returns-clause-idempotent c = idempotent

use Rattle.std.proofs.Common.{sym, ◌∙◌}
use Rattle.resp_connect.proofs.Working.{given_back, is_false}
use Rattle.resp_connect.proofs.pool.Pool.put.Goals as goal

pub invariant_of-self-then-is_open-2 : goal.invariant_of-self-then-is_open-2
invariant_of-self-then-is_open-2 g c = given_back _ _ _ _ _ _ _ c.push.ensures.items c.self.invariant c.if-self-eq0.false
    (is_false _ (sym c.is_open.ensures ∙ c.if-is_open.true))

use Rattle.resp_routing.proofs.FirstKey.{of_spec}
use Rattle.resp_routing.proofs.commands.Keys.is_first.Goals as goal

pub returns-then-is_first : goal.returns-then-is_first
returns-then-is_first c = λ single.
    rw c.in-One.is (of_spec c.in-One.spec (c.is_first.ensures c.if-is_first.true) (c.is_one.ensures single))

use Rattle.resp_connect.proofs.Greetings.{holds_four}
use Rattle.resp_connect.proofs.greeting.Steps.in_resp2.Goals as goal

pub returns-clause-made : goal.returns-clause-made
returns-clause-made c = holds_four _ _ _ _ _ _ _ _ _ _ _ _ _ _ c.new-steps.ensures c.in_ok-auth.ensures.added
    c.in_ok-set_name.ensures.added c.in_ok-select.ensures.added c.in_ok-set_info.ensures.added

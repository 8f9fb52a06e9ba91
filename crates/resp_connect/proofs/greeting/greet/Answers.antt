use Rattle.resp_connect.proofs.Greeted.{greeted_if}
use Rattle.resp_connect.proofs.greeting.greet.Goals as goal

pub returns-clause-greeted : goal.returns-clause-greeted
returns-clause-greeted g c = λ works own. greeted_if _ _ _ works own _ c.say.ensures

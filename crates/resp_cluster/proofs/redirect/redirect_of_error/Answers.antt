use Rattle.std.proofs.Common.{rules}
use Rattle.resp_cluster.proofs.RedirectTexts.{sends_nowhere}
use Rattle.resp_cluster.proofs.redirect.redirect_of_error.Goals as goal

pub returns-in-None : goal.returns-in-None
returns-in-None c = sends_nowhere c.args.asked.now c.in-Some-Moved-Some.text.now c.args.error.now
    (search rules) (search rules)

pub returns-in-None-2 : goal.returns-in-None-2
returns-in-None-2 c = sends_nowhere c.args.asked.now c.in-Some-Ask-Some.text.now c.args.error.now
    (search rules) (search rules)

use Rattle.resp_command.proofs.OneTaking.{takes_one_thing}
use Rattle.resp_command.proofs.laws.law_of_taking.Goals as goal

pub returns : goal.returns
returns c = takes_one_thing

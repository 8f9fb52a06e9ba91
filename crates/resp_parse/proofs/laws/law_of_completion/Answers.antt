use Rattle.resp_parse.proofs.Completions as completions
use Rattle.resp_parse.proofs.laws.law_of_completion.Goals as goal

pub returns : goal.returns
returns c = record { law = completions.law_of_completion }

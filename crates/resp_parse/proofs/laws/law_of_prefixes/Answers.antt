use Rattle.resp_parse.proofs.Prefixes as prefixes
use Rattle.resp_parse.proofs.laws.law_of_prefixes.Goals as goal

pub returns : goal.returns
returns c = record { law = prefixes.law_of_prefixes }

use Rattle.resp_parse.proofs.MoreLevels as depth
use Rattle.resp_parse.proofs.laws.law_of_levels.Goals as goal

pub returns : goal.returns
returns c = record { law = depth.law_of_levels }

use Rattle.resp_parse.proofs.SizesOfValues as sizes
use Rattle.resp_parse.proofs.laws.law_of_sizes.Goals as goal

pub returns : goal.returns
returns c = record { law = sizes.law_of_sizes }

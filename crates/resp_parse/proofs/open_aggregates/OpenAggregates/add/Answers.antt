use Rattle.std.proofs.Common.{rules}
use Rattle.resp_parse.proofs.open_aggregates.OpenAggregates.add.Goals as goal

pub returns-clause-adds : goal.returns-clause-adds
returns-clause-adds c = search rules

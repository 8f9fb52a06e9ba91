use Rattle.std.proofs.Common.{rules}
use Rattle.resp_parse.proofs.Parsing.{ParsesReader-source}
use Rattle.resp_parse.proofs.parser.Parser.parse_value.Goals as goal

pub returns-clause-parses : goal.returns-clause-parses
returns-clause-parses g c = λ b h. search (rules, ParsesReader-source)

use Rattle.std.proofs.Common.{rules}
use Rattle.resp_parse.proofs.ParserStates.{StandsAfter-not_failed}
use Rattle.resp_parse.proofs.parser.Parser.fill_from.Goals as goal

pub returns-then-is_failed-clause-asks : goal.returns-then-is_failed-clause-asks
returns-then-is_failed-clause-asks g c = λ b h. absurd (StandsAfter-not_failed c.args.self.now b h (search rules))

use Rattle.std.proofs.Common.{rules}
use Rattle.resp_parse.proofs.ParserStates.{StandsAfter-not_failed}
use Rattle.resp_parse.proofs.parser.Parser.take_value.Goals as goal

pub returns-then-is_failed-clause-takes : goal.returns-then-is_failed-clause-takes
returns-then-is_failed-clause-takes c = λ b h. absurd (StandsAfter-not_failed c.args.self.now b h (search rules))

use Rattle.std.proofs.Common.{rules}
use Rattle.resp_errors.proofs.parsing_error.ParsingError.from_text.Goals as goal

pub returns-clause-text : goal.returns-clause-text
returns-clause-text c = search rules

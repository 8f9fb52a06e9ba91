use Rattle.std.proofs.Common.{rules}
use Rattle.resp_errors.proofs.parsing_error.ParsingError.frame_fault.Goals as goal

pub returns-in-Fault : goal.returns-in-Fault
returns-in-Fault c = search rules

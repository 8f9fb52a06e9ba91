use Rattle.resp_command.proofs.WholeScans.{law_of_scans}
use Rattle.resp_command.proofs.laws.law_of_scans.Goals as goal

pub returns : goal.returns
returns g c = law_of_scans _ _

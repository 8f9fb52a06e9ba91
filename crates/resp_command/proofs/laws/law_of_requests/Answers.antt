use Rattle.resp_command.proofs.Requests.{requests_read_only}
use Rattle.resp_command.proofs.laws.law_of_requests.Goals as goal

pub returns : goal.returns
returns c = requests_read_only

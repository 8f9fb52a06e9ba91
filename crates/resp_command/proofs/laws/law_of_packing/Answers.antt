use Rattle.resp_command.proofs.PackedReadsBack.{packed_reads_only}
use Rattle.resp_command.proofs.laws.law_of_packing.Goals as goal

pub returns : goal.returns
returns c = packed_reads_only

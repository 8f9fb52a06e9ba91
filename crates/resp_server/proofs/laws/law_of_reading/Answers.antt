use Rattle.resp_args.specs.Args.{Args}
use Rattle.resp_command.proofs.PackedReadsBack.{packed_reads_only}
use Rattle.resp_server.specs.RequestLaw.{LawOfReading}
use Rattle.resp_server.proofs.Words.{made-once, made-request}
use Rattle.resp_server.proofs.laws.law_of_reading.Goals as goal

law : (args : Args) → LawOfReading args
law args = record {
  read = packed_reads_only args;
  request = made-request args;
  only = λ others e. made-once others args e;
}

pub returns : goal.returns
returns c = record { law = law }

use Rattle.resp_pipeline.proofs.Requests.{pipeline_reads_only}
use Rattle.resp_pipeline.proofs.laws.law_of_pipelines.Goals as goal

pub returns : goal.returns
returns c = pipeline_reads_only

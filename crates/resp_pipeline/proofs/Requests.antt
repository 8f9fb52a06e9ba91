-- What a pipeline's bytes spell.
use Rattle.resp_command.proofs.Requests.{requests_read_only}
use Rattle.resp_pipeline.specs.Pipeline.{Plan, argument_lists}
use Rattle.resp_pipeline.specs.PipelineLaw.{LawOfPipelines}

pub pipeline_reads_only : (p : Plan) → LawOfPipelines p
pipeline_reads_only p = requests_read_only (argument_lists p)

-- The grammar reads a pipeline's bytes as the arrays of its commands, and as nothing else.
use Rattle.std.specs.Prelude.{◌<◌, ◌^◌, length}
use Rattle.resp_command.specs.PackingLaw.{ReadsOnly}
use Rattle.resp_pipeline.specs.Pipeline.{Plan, request, as_values}

-- for pipelines of up to 2^63 - 1 bytes
abbrev pub LawOfPipelines : Plan → Type 0
LawOfPipelines p = length (request p) < 2 ^ 63 → ReadsOnly (request p) (as_values p)

use Rattle.resp_command.proofs.KnownBytes.{known_exchange}
use Rattle.resp_pipeline.proofs.laws.law_of_pipelines_in_memory.Goals as goal

pub returns : goal.returns
returns g c = λ old new p r later h several works own e. known_exchange old new _ _ r _ later (h.when_working several works own) e

use Rattle.std.proofs.lemmas.Result.{err_from_is_err_and}
use Rattle.resp_cluster.specs.Spread.{answered, refused}
use Rattle.resp_cluster.proofs.cluster_link.ClusterLink.query_pipeline.Goals as goal

pub returns-in_err-answers-clause-spread : goal.returns-in_err-answers-clause-spread
returns-in_err-answers-clause-spread g c = λ plain.
    let p = err_from_is_err_and c.from_residual.result c.from_residual.ensures.1 in
    refused p.0 (rw (p.2, ← c.commands.ensures) c.in_err-answers.ensures.refused) p.1

pub returns-clause-spread : goal.returns-clause-spread
returns-clause-spread g c = λ plain.
    answered c.in_ok-answers.answers.items (rw (← c.commands.ensures) c.in_ok-answers.ensures.spread)
    (c.outcome.ensures.plain plain)

use Rattle.std.proofs.Common.{refl, sym, ◌∙◌}
use Rattle.std.proofs.lemmas.Result.{err_from_is_err_and}
use Rattle.resp_pipeline.proofs.Queries.{unsupported, not_packed, pipeline_refused, pipeline_answered}
use Rattle.resp_pipeline.proofs.pipeline.Pipeline.query.Goals as goal

pub returns-then-not-supports_pipelining : goal.returns-then-not-supports_pipelining
returns-then-not-supports_pipelining g c =
    rw c.unsupported.ensures (unsupported _ _ _ _ refl
    (sym c.supports_pipelining.ensures ∙ c.if-not-supports_pipelining.true))

pub returns-in_err-request : goal.returns-in_err-request
returns-in_err-request g c =
    let p = err_from_is_err_and c.from_residual.result c.from_residual.ensures.1 in
    let memory = rw c.in_err-request.was at c.get_packed_pipeline.ensures.memory in
    rw (p.1, p.2, memory) (not_packed _ _ _ _ refl
    (sym c.supports_pipelining.ensures ∙ c.if-not-supports_pipelining.false))

pub returns-in_err-replies : goal.returns-in_err-replies
returns-in_err-replies g c =
    let p = err_from_is_err_and c.from_residual-in_err-replies.result c.from_residual-in_err-replies.ensures.1 in
    let request = rw c.in_ok-request.was at c.get_packed_pipeline.ensures.packed in
    rw (p.1, p.2) (pipeline_refused _ _ _ _ _ _ _ _ (c.as_slice.ensures.value ∙ request) c.replies_needed.ensures
    (sym c.supports_pipelining.ensures ∙ c.if-not-supports_pipelining.false) c.req_packed_commands.ensures.0 _
    c.in_err-replies.was)

pub returns : goal.returns
returns g c =
    let request = rw c.in_ok-request.was at c.get_packed_pipeline.ensures.packed in
    pipeline_answered _ _ _ _ _ _ _ _ (c.as_slice.ensures.value ∙ request) c.replies_needed.ensures
    (sym c.supports_pipelining.ensures ∙ c.if-not-supports_pipelining.false) c.req_packed_commands.ensures.0 _ _
    c.in_ok-replies.was c.outcome.ensures

-- What the contracts of pipelines cite, given out for the crates of users.
pub use Rattle.resp_pipeline.specs.Outcome.{Aborts, Composes, Concludes, Outcome, errors_from, errors_of}
pub use Rattle.resp_pipeline.specs.Outcome.{kept, kept_reply, unexpected_exec_reply}
pub use Rattle.resp_pipeline.specs.Pipeline.{AppendsToLast, Plan, args_of_commands, argument_lists}
pub use Rattle.resp_pipeline.specs.Pipeline.{as_transaction, as_values, last_marked, new_plan}
pub use Rattle.resp_pipeline.specs.Pipeline.{replies_needed, request, with_command}
pub use Rattle.resp_pipeline.specs.PipelineLaw.{LawOfPipelines}
pub use Rattle.resp_pipeline.specs.PipelineQuery.{PipelineQuery, no_pipelining}

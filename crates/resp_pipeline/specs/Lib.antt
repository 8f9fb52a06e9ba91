pub mod Outcome
pub mod Pipeline
pub mod PipelineLaw
pub mod PipelineQuery
pub mod Retried
